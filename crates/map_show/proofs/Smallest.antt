-- "Of several, the smallest number is given": the rules of a row shown at a width.
use mathlib.Core.Path.{refl}
use mathlib.Core.Bool.{Bool}
use mathlib.Core.List.{List}
use Prim.Native.Nat.{ℕ}
use Rattle.pictures.specs.declared.sizes.Kind.{Kind}
use Rattle.pictures.specs.Refusals.{SmallestGiven}
use Rattle.pictures.proofs.Rules.{given-smallest}
use Rattle.map_show.specs.Showing.{row_at_rules}

pub row-smallest : (k : Kind) (wrap : Bool) (samples numbers : List ℕ) (v space : ℕ) → SmallestGiven (row_at_rules k wrap samples numbers v space)
row-smallest k wrap samples numbers v space = given-smallest _ refl
