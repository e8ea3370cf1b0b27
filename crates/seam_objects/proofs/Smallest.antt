-- "Of several, the smallest number is given": the rules of removing objects.
use mathlib.Core.Path.{refl}
use mathlib.Core.List.{List}
use Prim.Native.Nat.{ℕ}
use Rattle.pictures.specs.declared.sizes.Size.{Size}
use Rattle.pictures.specs.Refusals.{SmallestGiven}
use Rattle.pictures.proofs.Rules.{given-smallest}
use Rattle.seam_objects.specs.Removing.{removal_rules}

pub removal-smallest : (z : Size) (b marks : List ℕ) (work : ℕ) → SmallestGiven (removal_rules z b marks work)
removal-smallest z b marks work = given-smallest _ refl
