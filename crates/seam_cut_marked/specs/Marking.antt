-- The operations on one seam of a lent picture by marks: when they are refused, and what they give.
use Rattle.pictures.specs.declared.refusals.Refusal.{Refusal}
use Rattle.std.specs.Prelude.{◌≡◌, List, [], ◌∷◌, ◌++◌, ℕ, ◌+◌, length, take, drop, replicate, Result}
use Rattle.grids.specs.Rows.{flat}
use Rattle.pictures.specs.declared.sizes.Size.{Size}
use Rattle.pictures.specs.Refusals.{Rule, ◌when◌, refusal, served, worked}
use Rattle.pictures.specs.Pictures.{size_rules, picture_bytes, picture, bytes, pixels, marks_of}
use Rattle.seam_bounds.specs.Moves.{outside}
use Rattle.energy.specs.declared.methods.Method.{Method}
use Rattle.seam_rules.specs.declared.answers.Axis.{Axis}
use Rattle.seam_rules.specs.Answers.{found_number, found_cost}
use Rattle.seam_rules.specs.Axes.{turned_size, grey_of}
use Rattle.seam_rules.specs.Cuts.{cleared, room_rules, last_rules, mark_length_rules}
use Rattle.seam_turn.specs.Axes.{turned, cut_along}
use Rattle.seam_turn.specs.Turning.{left_work}
use Rattle.seam_cut.specs.Cutting.{closed_along}
use Rattle.seam_cut_marked.specs.Axes.{marked_seam_along, marked_cost_along, blocked_along}

-- Refusals 4 and 5 of a buffer of marks: a mark over 2 isn't below 3.
abbrev pub mark_rules : Size → List ℕ → List Rule
mark_rules z marks = mark_length_rules z (length marks) ++ (5 when outside 3 marks ∷ [])

-- With marks, finding is refused when the picture or the marks are, when a space is too short, and by 12 where no seam is
-- allowed.
abbrev pub marked_find_rules : Method → Axis → Size → List ℕ → List ℕ → ℕ → ℕ → List Rule
marked_find_rules how x z b marks seam work =
    size_rules z (length b)
    ++ (mark_rules z marks ++ (room_rules x z seam work ++ (12 when blocked_along how x z (picture z b) (marks_of z marks) ∷ [])))

abbrev pub marked_cut_rules : Method → Axis → Size → List ℕ → List ℕ → ℕ → ℕ → List Rule
marked_cut_rules how x z b marks seam work = marked_find_rules how x z b marks seam work ++ last_rules x z

-- Finding by marks: the number; the seam's cost; the seam, after which its space is kept; and the work space.
pub record FindMarkedGiven (b m : List ℕ) (z : Size) (how : Method) (x : Axis) (seam work : List ℕ) (answer : Result ℕ Refusal) (seam' work' : List ℕ) : Type 0 where
  pub number : found_number answer ≡ refusal (marked_find_rules how x z b m (length seam) (length work))
  pub cost : found_cost answer ≡ served (found_number answer) (marked_cost_along how x z (picture z b) (marks_of z m)) 0
  pub seam_given :
      seam' ≡ served (found_number answer)
      (marked_seam_along how x z (picture z b) (marks_of z m) ++ drop (turned_size x z).height seam)
      seam
  pub work_left : work' ≡ cleared (found_number answer) work

-- "Marks are cut alike": those of a picture of size z without the seam s, the freed bytes 0.
abbrev pub closed_marks : Axis → Size → List ℕ → List ℕ → List ℕ
closed_marks x z s m = flat (cut_along x z s (marks_of z m)) ++ replicate (turned_size x z).height 0

-- Cutting by marks gives the same, and leaves picture and marks without the seam.
pub record CutMarkedGiven (b m : List ℕ) (z : Size) (how : Method) (x : Axis) (seam work : List ℕ) (answer : Result ℕ Refusal) (b' m' seam' work' : List ℕ) : Type 0 where
  pub number : found_number answer ≡ refusal (marked_cut_rules how x z b m (length seam) (length work))
  pub cost : found_cost answer ≡ served (found_number answer) (marked_cost_along how x z (picture z b) (marks_of z m)) 0
  pub picture_left : b' ≡ served (found_number answer) (closed_along x z (marked_seam_along how x z (picture z b) (marks_of z m)) b) b
  pub marks_left : m' ≡ served (found_number answer) (closed_marks x z (marked_seam_along how x z (picture z b) (marks_of z m)) m) m
  pub seam_given :
      seam' ≡ served (found_number answer)
      (marked_seam_along how x z (picture z b) (marks_of z m) ++ drop (turned_size x z).height seam)
      seam
  pub work_left : work' ≡ cleared (found_number answer) work

-- Where a seam is looked for, picture and marks stand turned at the front of the work space, one after the other, and after them a 0
-- for each pixel; the rest is as it was.
abbrev pub searched : Axis → Size → (b m work : List ℕ) → List ℕ
searched x z b m work =
    bytes z.kind (turned x z.width (picture z b))
    ++ (flat (turned x z.width (marks_of z m)) ++ (replicate (pixels z) 0 ++ drop (picture_bytes z + (pixels z + pixels z)) work))

-- Where the seam s is cut, a horizontal one closes both up there, and a vertical one leaves them.
abbrev pub cut_there : Axis → Size → (s work : List ℕ) → List ℕ
cut_there x z s work = left_work x z s 0 (take (picture_bytes z) work ++ left_work x (grey_of z) s 0 (drop (picture_bytes z) work))

-- What a cut leaves there, by its number: after success, and after 12 and 13.
abbrev pub left_after : ℕ → Method → Axis → Size → (b m work : List ℕ) → List ℕ
left_after n how x z b m work =
    served n (cut_there x z (marked_seam_along how x z (picture z b) (marks_of z m)) (searched x z b m work)) (searched x z b m work)

-- The same cut for one who clears the work space later, after many of them: it is left as it was worked in, and after 1 to 8 as it was.
pub record CutUnclearedGiven (b m : List ℕ) (z : Size) (how : Method) (x : Axis) (seam work : List ℕ) (answer : Result ℕ Refusal) (b' m' seam' work' : List ℕ) : Type 0 where
  pub cut : CutMarkedGiven b m z how x seam work answer b' m' seam' (cleared (found_number answer) work)
  pub work_left : work' ≡ worked (found_number answer) (left_after (found_number answer) how x z b m work) work
