-- "Of several, the smallest number is given": the rules of moving bytes inside one space. Those of exchanging from buffer to
-- buffer, and of a column, are in `seam_bounds`.
use mathlib.Core.Path.{refl}
use Prim.Native.Nat.{ℕ}
use Rattle.pictures.specs.declared.sizes.Size.{Size}
use Rattle.pictures.specs.Refusals.{SmallestGiven}
use Rattle.pictures.proofs.Rules.{given-smallest}
use Rattle.seam_moves.specs.Between.{copy_between_rules, exchange_between_rules}

pub copy_between-smallest : (space from bytes to : ℕ) → SmallestGiven (copy_between_rules space from bytes to)
copy_between-smallest space from bytes to = given-smallest _ refl

pub exchange-between-smallest : (space from : ℕ) (z : Size) (to : ℕ) → SmallestGiven (exchange_between_rules space from z to)
exchange-between-smallest space from z to = given-smallest _ refl
