-- "Of several, the smallest number is given": the rules of a size and of a picture buffer.
use mathlib.Core.Path.{refl}
use Prim.Native.Nat.{ℕ}
use Rattle.pictures.specs.declared.sizes.Size.{Size}
use Rattle.pictures.specs.Refusals.{SmallestGiven}
use Rattle.pictures.specs.Pictures.{side_rules, size_rules}
use Rattle.pictures.proofs.Rules.{given-smallest}

pub side_smallest : (z : Size) → SmallestGiven (side_rules z)
side_smallest z = given-smallest _ refl

pub size_smallest : (z : Size) (bytes : ℕ) → SmallestGiven (size_rules z bytes)
size_smallest z bytes = given-smallest _ refl
