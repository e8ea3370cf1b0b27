-- The map of the picture at the front of a work space: what it gives.
use Rattle.std.specs.Prelude.{◌≡◌, Result, List, ◌++◌, ℕ, ◌-◌, length, drop, replicate}
use Rattle.grids.specs.Rows.{flat}
use Rattle.pictures.specs.declared.sizes.Size.{Size}
use Rattle.pictures.specs.declared.refusals.Refusal.{Refusal}
use Rattle.pictures.specs.Refusals.{given, refusal, served}
use Rattle.pictures.specs.Pictures.{Picture, bytes, picture_in}
use Rattle.pictures.specs.Numbers.{pairs}
use Rattle.energy.specs.declared.methods.Method.{Method}
use Rattle.map_theory.specs.Maps.{carve, map_of}
use Rattle.seam_theory.specs.PictureSeams.{seam_of}
use Rattle.map_rules.specs.Spaces.{map_at, recorded_at, map_space_rules}

-- The list, and zeros after it up to n elements in all.
abbrev pub with_zeros : ℕ → List ℕ → List ℕ
with_zeros n x = x ++ replicate (n - length x) 0

-- What stands before the recorded map where nothing is refused: the picture after k seams, zeros up to the map, and the map of that
-- depth, row by row.
abbrev pub mapped : Size → Method → ℕ → Picture → List ℕ
mapped z how k p = with_zeros (map_at z) (bytes z.kind (carve (seam_of how) k z.width z.height p)) ++ pairs (flat (map_of (seam_of how) k z.width z.height p))

-- The number, and the space; from the place of the recorded map on it is as it was.
pub record MapInGiven (space : List ℕ) (z : Size) (how : Method) (depth : ℕ) (answer : Result (Unit {0}) Refusal) (space' : List ℕ) : Type 0 where
  pub number : given answer ≡ refusal (map_space_rules z depth (length space))
  pub space_left : space' ≡ served (given answer) (mapped z how depth (picture_in z space) ++ drop (recorded_at z) space) space
