-- "Of several, the smallest number is given": the rules of an input's length, and of a picture that the programs hold.
use mathlib.Core.Path.{refl}
use Prim.Native.Nat.{ℕ}
use Rattle.pictures.specs.declared.sizes.Size.{Size}
use Rattle.pictures.specs.Refusals.{SmallestGiven}
use Rattle.pictures.proofs.Rules.{given-smallest}
use Rattle.program_rules.specs.Limits.{length_rules, held_rules}

pub length-smallest : (bytes : ℕ) → SmallestGiven (length_rules bytes)
length-smallest bytes = given-smallest _ refl

pub held-smallest : (z : Size) (bytes : ℕ) → SmallestGiven (held_rules z bytes)
held-smallest z bytes = given-smallest _ refl
