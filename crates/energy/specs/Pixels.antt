-- What coming to one pixel from one side costs, in a picture of which the first columns are left.
use Rattle.std.specs.Prelude.{◌≡◌, ℕ, ◌≤◌}
use Rattle.pictures.specs.declared.sizes.Size.{Size}
use Rattle.pictures.specs.Refusals.{refusal}
use Rattle.pictures.specs.Pictures.{side_rules, picture_bytes}
use Rattle.energy.specs.declared.pixels.Step.{Step}
use Rattle.energy.specs.declared.pixels.Step.TheVariants.{Up, Left, Right}
use Rattle.energy.specs.Energy.{StepCosts}

-- One of a pixel's three costs.
abbrev pub cost_to : Step → StepCosts → ℕ
cost_to Up k = k.up
cost_to Left k = k.left
cost_to Right k = k.right

-- A picture in so many bytes that is carved where it stands: its rows are as long as at this size, and its first w columns are left.
pub record IsCarved (z : Size) (w bytes : ℕ) : Type 0 where
  pub sides : refusal (side_rules z) ≡ 0
  pub left : w ≤ z.width
  pub long : bytes ≡ picture_bytes z
