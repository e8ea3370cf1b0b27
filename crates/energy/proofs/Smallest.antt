-- "Of several, the smallest number is given": the rules of a row of energies, and of a row of its steps' costs.
use mathlib.Core.Path.{refl}
use Prim.Native.Nat.{ℕ}
use Rattle.pictures.specs.declared.sizes.Size.{Size}
use Rattle.pictures.specs.Refusals.{SmallestGiven}
use Rattle.pictures.proofs.Rules.{given-smallest}
use Rattle.energy.specs.Energy.{energies_rules, step_costs_rules}

pub energies-smallest : (z : Size) (bytes r space : ℕ) → SmallestGiven (energies_rules z bytes r space)
energies-smallest z bytes r space = given-smallest _ refl

pub step_costs-smallest : (z : Size) (bytes r left up right : ℕ) → SmallestGiven (step_costs_rules z bytes r left up right)
step_costs-smallest z bytes r left up right = given-smallest _ refl
