-- The costs of a picture's pixels, kept in planes of numbers.
use Rattle.std.specs.Prelude.{◌≡◌, true, false, List, ℕ, ◌+◌, ◌≤◌, ◌<◌, length}
use Rattle.grids.specs.Table.{table}
use Rattle.pictures.specs.declared.sizes.Size.{Size}
use Rattle.pictures.specs.Refusals.{refusal}
use Rattle.pictures.specs.Pictures.{Picture, picture_bytes, side_rules}
use Rattle.energy.specs.declared.methods.Method.{Method}
use Rattle.energy.specs.declared.pixels.Step.{Step}
use Rattle.energy.specs.Energy.{costs_at}
use Rattle.energy.specs.Methods.{wrap_of}
use Rattle.energy.specs.Pixels.{cost_to}
use Rattle.seam_theory.specs.Connected.{linked}
use Rattle.seam_theory.specs.Paths.{near}
use Rattle.seam_bounds.specs.Moves.{outside}
use Rattle.seam_planes.specs.Planes.{plane_bytes}

-- What coming from one side to each pixel of a picture of w columns and h rows costs, row by row.
unfoldable pub cost_grid : Method → Step → ℕ → ℕ → Picture → List (List ℕ)
cost_grid how from w h p = table (λ r. table (λ c. cost_to from (costs_at how w h p r c)) w) h

-- A picture of this size, and a plane for its costs.
pub record FillAsked (z : Size) (picture plane : ℕ) : Type 0 where
  pub sides : refusal (side_rules z) ≡ 0
  pub long : picture ≡ picture_bytes z
  pub room : plane ≡ plane_bytes z

-- The same with planes for the costs of coming from the left and from the right.
pub record StepsAsked (z : Size) (picture up left right : ℕ) : Type 0 where
  pub up_asked : FillAsked z picture up
  pub left_asked : FillAsked z picture left
  pub right_asked : FillAsked z picture right

-- A picture of this size at first, of which w columns are left after a seam was cut, connected and inside the w + 1 before; and a plane for
-- its costs.
pub record KeepAsked (how : Method) (z : Size) (w : ℕ) (s : List ℕ) (picture plane : ℕ) : Type 0 where
  pub sides : refusal (side_rules z) ≡ 0
  pub some : 0 < w
  pub left : w + 1 ≤ z.width
  pub long : picture ≡ picture_bytes z
  pub room : plane ≡ plane_bytes z
  pub columns : length s ≡ z.height
  pub inside : outside (w + 1) s ≡ false
  pub joined : linked (near (wrap_of how) (w + 1)) s ≡ true
