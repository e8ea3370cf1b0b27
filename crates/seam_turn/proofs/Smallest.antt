-- "Of several, the smallest number is given": the rules of closing up along an axis. Those of turning are in `seam_bounds`.
use mathlib.Core.Path.{refl}
use mathlib.Core.List.{List}
use Prim.Native.Nat.{ℕ}
use Rattle.pictures.specs.declared.sizes.Size.{Size}
use Rattle.pictures.specs.Refusals.{SmallestGiven}
use Rattle.pictures.proofs.Rules.{given-smallest}
use Rattle.seam_rules.specs.declared.answers.Axis.{Axis}
use Rattle.seam_turn.specs.Turning.{close_along_rules}

pub close_along-smallest : (x : Axis) (z : Size) (bytes : ℕ) (s : List ℕ) (work : ℕ) → SmallestGiven (close_along_rules x z bytes s work)
close_along-smallest x z bytes s work = given-smallest _ refl
