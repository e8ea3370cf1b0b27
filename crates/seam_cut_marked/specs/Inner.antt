-- What the private functions of this crate ask and promise. No public promise cites it.
use Rattle.pictures.specs.declared.refusals.Refusal.{Refusal}
use Rattle.std.specs.Prelude.{◌≡◌, false, cond, List, ◌++◌, ℕ, ◌+◌, ◌≤◌, length, drop, replicate, Result}
use Rattle.pictures.specs.declared.sizes.Size.{Size}
use Rattle.pictures.specs.Refusals.{Rule, number_of, refusal, served}
use Rattle.pictures.specs.Pictures.{size_rules, picture_bytes, picture, pixels, marks_of}
use Rattle.energy.specs.declared.methods.Method.{Method}
use Rattle.seam_rules.specs.Answers.{found_number, found_cost}
use Rattle.seam_rules.specs.Axes.{turned_size}
use Rattle.seam_rules.specs.declared.answers.Axis.{Axis}
use Rattle.seam_rules.specs.Cuts.{room_rules, last_along}
use Rattle.seam_cut.specs.Cutting.{closed_along}
use Rattle.seam_cut_marked.specs.Axes.{marked_seam_along, marked_cost_along, blocked_along}
use Rattle.seam_cut_marked.specs.Marking.{mark_rules, closed_marks, searched, left_after, CutMarkedGiven}

-- A picture and marks of its size, with room for the seam and for finding it.
pub record MarkedNeeded (b m : List ℕ) (z : Size) (x : Axis) (seam work : List ℕ) : Type 0 where
  pub sized : refusal (size_rules z (length b)) ≡ 0
  pub marked : length m ≡ pixels z
  pub seam_room : (turned_size x z).height ≤ length seam
  pub work_room : picture_bytes z + (pixels z + pixels z) ≤ length work

-- The same for a cut, where more than one column or row is left.
pub record CutMarkedNeeded (b m : List ℕ) (z : Size) (x : Axis) (seam work : List ℕ) : Type 0 where
  pub found : MarkedNeeded b m z x seam work
  pub more : last_along x z ≡ false

-- The rules of picture, marks and spaces, of which `judge_marked` gives the first that applies.
abbrev pub judged : Axis → Size → (b m seam work : List ℕ) → List Rule
judged x z b m seam work = size_rules z (length b) ++ (mark_rules z m ++ room_rules x z (length seam) (length work))

-- None does.
pub record JudgedNeeded (b m : List ℕ) (z : Size) (x : Axis) (seam work : List ℕ) : Type 0 where
  pub none : refusal (judged x z b m seam work) ≡ 0

-- Then the cut gives what `cut_marked` gives. The work space is still to be cleared.
pub record CutJudgedGiven (b m : List ℕ) (z : Size) (how : Method) (x : Axis) (seam work : List ℕ) (answer : Result ℕ Refusal) (b' m' seam' work' : List ℕ) : Type 0 where
  pub cut : CutMarkedGiven b m z how x seam work answer b' m' seam' (replicate (length work) 0)
  pub work_left : work' ≡ left_after (found_number answer) how x z b m work

-- 12 where every seam meets a protected pixel.
abbrev pub blocked_number : Method → Axis → Size → List ℕ → List ℕ → ℕ
blocked_number how x z b m = cond (blocked_along how x z (picture z b) (marks_of z m)) 12 0

-- The seam by the marks where no smaller number refuses it, or 12.
pub record MarkedSeamGiven (b m : List ℕ) (z : Size) (how : Method) (x : Axis) (seam : List ℕ) (answer : Result ℕ Refusal) (seam' : List ℕ) : Type 0 where
  pub number : found_number answer ≡ blocked_number how x z b m
  pub cost : found_cost answer ≡ served (found_number answer) (marked_cost_along how x z (picture z b) (marks_of z m)) 0
  pub seam_given :
      seam' ≡ served (found_number answer)
      (marked_seam_along how x z (picture z b) (marks_of z m) ++ drop (turned_size x z).height seam)
      seam

-- The work space is still to be cleared.
pub record MarkedAlongGiven (b m : List ℕ) (z : Size) (how : Method) (x : Axis) (seam work : List ℕ) (answer : Result ℕ Refusal) (seam' work' : List ℕ) : Type 0 where
  pub found : MarkedSeamGiven b m z how x seam answer seam'
  pub work_left : work' ≡ searched x z b m work

-- The seam, and picture and marks without it.
pub record CutAlongGiven (b m : List ℕ) (z : Size) (how : Method) (x : Axis) (seam work : List ℕ) (answer : Result ℕ Refusal) (b' m' seam' work' : List ℕ) : Type 0 where
  pub found : MarkedSeamGiven b m z how x seam answer seam'
  pub picture_left : b' ≡ served (found_number answer) (closed_along x z (marked_seam_along how x z (picture z b) (marks_of z m)) b) b
  pub marks_left : m' ≡ served (found_number answer) (closed_marks x z (marked_seam_along how x z (picture z b) (marks_of z m)) m) m
  pub work_left : work' ≡ left_after (found_number answer) how x z b m work

-- At the last column or row 12, else 13.
pub record LastGiven (b m : List ℕ) (z : Size) (how : Method) (x : Axis) (work : List ℕ) (why : Refusal) (work' : List ℕ) : Type 0 where
  pub number : number_of why ≡ cond (blocked_along how x z (picture z b) (marks_of z m)) 12 13
  pub work_left : work' ≡ searched x z b m work
