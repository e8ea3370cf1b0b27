-- The map of a picture where nothing is refused. What private functions ask and promise; no public promise cites it.
use Rattle.std.specs.Prelude.{◌≡◌, List, ◌++◌, ℕ, drop}
use Rattle.pictures.specs.declared.sizes.Size.{Size}
use Rattle.pictures.specs.Refusals.{refusal}
use Rattle.pictures.specs.Pictures.{picture_in}
use Rattle.energy.specs.declared.methods.Method.{Method}
use Rattle.map_rules.specs.Spaces.{recorded_at, map_space_rules}
use Rattle.map_build.specs.Building.{mapped}

-- A work space that nothing refuses.
pub record SeamsNeeded (z : Size) (depth space : ℕ) : Type 0 where
  pub served : refusal (map_space_rules z depth space) ≡ 0

-- And the map in it; from the place of the recorded map on it is as it was.
pub record SeamsGiven (z : Size) (how : Method) (depth : ℕ) (space space' : List ℕ) : Type 0 where
  pub space_left : space' ≡ mapped z how depth (picture_in z space) ++ drop (recorded_at z) space
