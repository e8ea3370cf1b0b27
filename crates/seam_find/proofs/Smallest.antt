-- "Of several, the smallest number is given": the rules of finding a seam in a space.
use mathlib.Core.Path.{refl}
use Prim.Native.Nat.{ℕ}
use Rattle.pictures.specs.declared.sizes.Size.{Size}
use Rattle.pictures.specs.Refusals.{SmallestGiven}
use Rattle.pictures.proofs.Rules.{given-smallest}
use Rattle.seam_find.specs.Finding.{find_in_rules}

pub find_smallest : (z : Size) (space seam : ℕ) → SmallestGiven (find_in_rules z space seam)
find_smallest z space seam = given-smallest _ refl
