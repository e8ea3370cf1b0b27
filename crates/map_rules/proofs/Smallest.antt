-- "Of several, the smallest number is given": the rules of a space for maps.
use mathlib.Core.Path.{refl}
use Prim.Native.Nat.{ℕ}
use Rattle.pictures.specs.declared.sizes.Size.{Size}
use Rattle.pictures.specs.Refusals.{SmallestGiven}
use Rattle.pictures.proofs.Rules.{given-smallest}
use Rattle.map_rules.specs.Spaces.{map_space_rules}

pub map-space-smallest : (z : Size) (depth space : ℕ) → SmallestGiven (map_space_rules z depth space)
map-space-smallest z depth space = given-smallest _ refl
