-- What the operations on one seam of a lent picture give.
use Rattle.pictures.specs.declared.refusals.Refusal.{Refusal}
use Rattle.std.specs.Prelude.{◌≡◌, List, ◌++◌, ℕ, ◌*◌, length, drop, replicate, Result}
use Rattle.pictures.specs.declared.sizes.Size.{Size}
use Rattle.pictures.specs.Refusals.{refusal, served}
use Rattle.pictures.specs.Pictures.{pixel_bytes, picture, bytes}
use Rattle.energy.specs.declared.methods.Method.{Method}
use Rattle.seam_rules.specs.declared.answers.Axis.{Axis}
use Rattle.seam_rules.specs.Answers.{found_number, found_cost}
use Rattle.seam_rules.specs.Axes.{turned_size}
use Rattle.seam_rules.specs.Cuts.{cleared, find_rules, cut_rules}
use Rattle.seam_turn.specs.Axes.{cut_along}
use Rattle.seam_cut.specs.Axes.{seam_along, cost_along}

-- Finding along an axis: the number; the seam's cost; the seam, after which its space is kept; and the work space.
pub record FindGiven (b : List ℕ) (z : Size) (how : Method) (x : Axis) (seam work : List ℕ) (answer : Result ℕ Refusal) (seam' work' : List ℕ) : Type 0 where
  pub number : found_number answer ≡ refusal (find_rules x z (length b) (length seam) (length work))
  pub cost : found_cost answer ≡ served (found_number answer) (cost_along how x z (picture z b)) 0
  pub seam_given : seam' ≡ served (found_number answer) (seam_along how x z (picture z b) ++ drop (turned_size x z).height seam) seam
  pub work_left : work' ≡ cleared (found_number answer) work

-- The picture of size z in the bytes b without the seam s: the rows packed at the front, the freed bytes 0.
abbrev pub closed_along : Axis → Size → List ℕ → List ℕ → List ℕ
closed_along x z s b = bytes z.kind (cut_along x z s (picture z b)) ++ replicate ((turned_size x z).height * pixel_bytes z.kind) 0

-- Cutting gives the same, and leaves the picture without the seam.
pub record CutGiven (b : List ℕ) (z : Size) (how : Method) (x : Axis) (seam work : List ℕ) (answer : Result ℕ Refusal) (b' seam' work' : List ℕ) : Type 0 where
  pub number : found_number answer ≡ refusal (cut_rules x z (length b) (length seam) (length work))
  pub cost : found_cost answer ≡ served (found_number answer) (cost_along how x z (picture z b)) 0
  pub picture_left : b' ≡ served (found_number answer) (closed_along x z (seam_along how x z (picture z b)) b) b
  pub seam_given : seam' ≡ served (found_number answer) (seam_along how x z (picture z b) ++ drop (turned_size x z).height seam) seam
  pub work_left : work' ≡ cleared (found_number answer) work
