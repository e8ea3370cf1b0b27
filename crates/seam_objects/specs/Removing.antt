-- Object removal on lent buffers: when it is refused, and what it gives.
use Rattle.std.specs.Prelude.{Result, ◌≡◌, List, [], ◌∷◌, ◌++◌, ℕ, ◌*◌, ltb, length, replicate}
use Rattle.std.proofs.Math.Option.{none, some}
use Rattle.grids.specs.Rows.{flat}
use Rattle.pictures.specs.declared.sizes.Size.{Size}
use Rattle.pictures.specs.declared.refusals.Refusal.{Refusal}
use Rattle.pictures.specs.Refusals.{◌when◌, Rule, refusal, served}
use Rattle.pictures.specs.Pictures.{pixel_bytes, size_rules, picture, bytes, work_bytes, marks_of}
use Rattle.energy.specs.declared.methods.Method.{Method}
use Rattle.seam_cut_marked.specs.Marking.{mark_rules}
use Rattle.seam_rules.specs.declared.answers.Removal.{Removal}
use Rattle.seam_rules.specs.Answers.{removal_number, removal_ending, removal_count}
use Rattle.seam_objects.specs.Objects.{MarkedPicture, Removed, removal}

-- Refused as picture and marks are, and by 8 where the work space has less than 32 bytes a pixel.
abbrev pub removal_rules : Size → List ℕ → List ℕ → ℕ → List Rule
removal_rules z b marks work = size_rules z (length b) ++ (mark_rules z marks ++ (8 when ltb work (work_bytes z) ∷ []))

-- The picture and the marks in lent buffers, and the method.
abbrev pub marked_picture : Size → Method → List ℕ → List ℕ → MarkedPicture
marked_picture z how b m = record { method = how; width = z.width; height = z.height; picture = picture z b; marks = marks_of z m }

-- What a removal leaves in the buffer of the picture and in that of the marks: packed at the front, the freed bytes 0.
abbrev pub left_picture : Size → Removed → List ℕ
left_picture z r = bytes z.kind r.left.picture ++ replicate (r.count * (z.height * pixel_bytes z.kind)) 0

abbrev pub left_marks : Size → Removed → List ℕ
left_marks z r = flat r.left.marks ++ replicate (r.count * z.height) 0

-- By at most `budget` cuts: the number, the ending and its count, and the buffers.
pub record RemoveGiven (b m : List ℕ) (z : Size) (how : Method) (budget : ℕ) (work : List ℕ) (answer : Result Removal Refusal) (b' m' work' : List ℕ) : Type 0 where
  pub number : removal_number answer ≡ refusal (removal_rules z b m (length work))
  pub ending : removal_ending answer ≡ served (removal_number answer) (some (removal budget 0 (marked_picture z how b m)).ending) none
  pub count : removal_count answer ≡ served (removal_number answer) (removal budget 0 (marked_picture z how b m)).count 0
  pub picture_left : b' ≡ served (removal_number answer) (left_picture z (removal budget 0 (marked_picture z how b m))) b
  pub marks_left : m' ≡ served (removal_number answer) (left_marks z (removal budget 0 (marked_picture z how b m))) m
  pub work_left : work' ≡ served (removal_number answer) (replicate (length work) 0) work
