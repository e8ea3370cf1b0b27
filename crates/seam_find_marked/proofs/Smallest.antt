-- "Of several, the smallest number is given": the rules of finding a seam with marks in a space.
use mathlib.Core.Path.{refl}
use mathlib.Core.Bool.{Bool}
use Prim.Native.Nat.{ℕ}
use Rattle.pictures.specs.declared.sizes.Size.{Size}
use Rattle.pictures.specs.Refusals.{SmallestGiven}
use Rattle.pictures.proofs.Rules.{given-smallest}
use Rattle.seam_find_marked.specs.Finding.{find_marked_in_rules}

pub find_marked_in_smallest : (z : Size) (space seam : ℕ) (blocked : Bool) → SmallestGiven (find_marked_in_rules z space seam blocked)
find_marked_in_smallest z space seam blocked = given-smallest _ refl
