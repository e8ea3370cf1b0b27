-- What the private functions of this crate ask and promise. No public promise cites it.
use Rattle.std.specs.Prelude.{◌≡◌, Bool, false, not, cond, List, ◌++◌, ℕ, ◌*◌, ◌≤◌, ◌<◌, length, take, drop, replicate}
use Rattle.grids.specs.Rows.{flat}
use Rattle.pictures.specs.declared.sizes.Size.{Size}
use Rattle.pictures.specs.Refusals.{refusal}
use Rattle.pictures.specs.Pictures.{pixel_bytes, side_rules, size_rules, picture_bytes, bytes, pixels, work_bytes}
use Rattle.seam_bounds.specs.Moves.{outside}
use Rattle.energy.specs.declared.methods.Method.{Method}
use Rattle.seam_rules.specs.declared.answers.Removal.{Removal}
use Rattle.seam_objects.specs.Objects.{MarkedPicture, no_seam, cut_once, removal}
use Rattle.seam_objects.specs.Removing.{marked_picture, left_picture, left_marks}

-- A picture and marks of its size, and room for the work.
pub record SeamsNeeded (z : Size) (b m work : List ℕ) : Type 0 where
  pub sized : refusal (size_rules z (length b)) ≡ 0
  pub marked : length m ≡ pixels z
  pub few : outside 3 m ≡ false
  pub room : work_bytes z ≤ length work

-- The removal where nothing is refused: how it ended, after how many cuts, and what it left.
pub record SeamsGiven (b m : List ℕ) (z : Size) (how : Method) (budget : ℕ) (answer : Removal) (b' m' : List ℕ) : Type 0 where
  pub ending : answer.ending ≡ (removal budget 0 (marked_picture z how b m)).ending
  pub count : answer.count ≡ (removal budget 0 (marked_picture z how b m)).count
  pub picture_left : b' ≡ left_picture z (removal budget 0 (marked_picture z how b m))
  pub marks_left : m' ≡ left_marks z (removal budget 0 (marked_picture z how b m))

-- A picture and marks of more than one column at the front of their buffers, and room for the work.
pub record FrontNeeded (z : Size) (b m work : List ℕ) : Type 0 where
  pub sides : refusal (side_rules z) ≡ 0
  pub wide : 1 < z.width
  pub picture_there : picture_bytes z ≤ length b
  pub marks_there : pixels z ≤ length m
  pub few : outside 3 (take (pixels z) m) ≡ false
  pub room : work_bytes z ≤ length work

-- What stands at the front.
abbrev pub front : Size → Method → List ℕ → List ℕ → MarkedPicture
front z how b m = marked_picture z how (take (picture_bytes z) b) (take (pixels z) m)

-- Whether a seam was cut out of it; then what is left is packed at the front, the freed bytes are 0, and what stood after
-- is as it was.
pub record FrontCut (z : Size) (how : Method) (b m : List ℕ) (cut : Bool) (b' m' : List ℕ) : Type 0 where
  pub cut_is : cut ≡ not (no_seam (front z how b m))
  pub picture_left :
      b' ≡ cond cut (bytes z.kind (cut_once (front z how b m)).picture ++ (replicate (z.height * pixel_bytes z.kind) 0 ++ drop (picture_bytes z) b)) b
  pub marks_left : m' ≡ cond cut (flat (cut_once (front z how b m)).marks ++ (replicate z.height 0 ++ drop (pixels z) m)) m
