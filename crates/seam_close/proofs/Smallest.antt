-- "Of several, the smallest number is given": the rules of closing up a seam.
use mathlib.Core.Path.{refl}
use mathlib.Core.List.{List}
use Prim.Native.Nat.{ℕ}
use Rattle.pictures.specs.declared.sizes.Size.{Size}
use Rattle.pictures.specs.Refusals.{SmallestGiven}
use Rattle.pictures.proofs.Rules.{given-smallest}
use Rattle.seam_close.specs.Closing.{close_rules}

pub close_smallest : (z : Size) (bytes : ℕ) (s : List ℕ) → SmallestGiven (close_rules z bytes s)
close_smallest z bytes s = given-smallest _ refl
