-- What the private functions of this crate ask and promise. No public promise cites it.
use Rattle.std.specs.Prelude.{◌≡◌, Ok, false, List, ℕ, length, replicate}
use Rattle.pictures.specs.declared.sizes.Size.{Size}
use Rattle.pictures.specs.Refusals.{refusal}
use Rattle.pictures.specs.Pictures.{picture, picture_in}
use Rattle.energy.specs.declared.methods.Method.{Method}
use Rattle.seam_rules.specs.declared.answers.Axis.{Axis}
use Rattle.seam_rules.specs.Axes.{turned_size}
use Rattle.seam_rules.specs.Cuts.{find_rules, last_along}
use Rattle.seam_turn.specs.Axes.{turned}
use Rattle.seam_cut.specs.Cutting.{FindGiven, CutGiven}

-- Nothing refuses finding.
pub record FindNeeded (b : List ℕ) (z : Size) (x : Axis) (seam work : List ℕ) : Type 0 where
  pub found : refusal (find_rules x z (length b) (length seam) (length work)) ≡ 0

-- Then the seam and its cost are those that `find` gives. The picture turned stands in the work space, which is still to be cleared.
pub record SeamAlongGiven (b : List ℕ) (z : Size) (how : Method) (x : Axis) (seam work : List ℕ) (cost : ℕ) (seam' work' : List ℕ) : Type 0 where
  pub found : FindGiven b z how x seam work (Ok cost) seam' (replicate (length work) 0)
  pub stands : picture_in (turned_size x z) work' ≡ turned x z.width (picture z b)

-- Nor cutting.
pub record CutNeeded (b : List ℕ) (z : Size) (x : Axis) (seam work : List ℕ) : Type 0 where
  pub found : refusal (find_rules x z (length b) (length seam) (length work)) ≡ 0
  pub more : last_along x z ≡ false

-- Then the picture, the seam and its cost are those that `cut` gives. The work space is still to be cleared.
abbrev pub CutAlongGiven : List ℕ → Size → Method → Axis → List ℕ → List ℕ → ℕ → List ℕ → List ℕ → Type 0
CutAlongGiven b z how x seam work cost b' seam' = CutGiven b z how x seam work (Ok cost) b' seam' (replicate (length work) 0)
