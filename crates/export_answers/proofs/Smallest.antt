-- "Of several, the smallest number is given": the rules of a row given to a host.
use mathlib.Core.Path.{refl}
use Prim.Native.Nat.{ℕ}
use Rattle.pictures.specs.Refusals.{SmallestGiven}
use Rattle.pictures.proofs.Rules.{given-smallest}
use Rattle.export_answers.specs.Answers.{row_rules}

pub row-smallest : (row space : ℕ) → SmallestGiven (row_rules row space)
row-smallest row space = given-smallest _ refl
