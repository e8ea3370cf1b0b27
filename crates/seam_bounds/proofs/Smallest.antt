-- "Of several, the smallest number is given": the rules of moving bytes, and of finding in a space.
use mathlib.Core.Path.{refl}
use mathlib.Core.Bool.{Bool}
use Prim.Native.Nat.{ℕ}
use Rattle.pictures.specs.declared.sizes.Size.{Size}
use Rattle.pictures.specs.Refusals.{SmallestGiven}
use Rattle.pictures.proofs.Rules.{given-smallest}
use Rattle.seam_bounds.specs.Moves.{exchange_rules, column_rules, close_length_rules, close_column_rules}
use Rattle.seam_bounds.specs.Spaces.{find_space_rules}

pub exchange-smallest : (z : Size) (bytes space : ℕ) → SmallestGiven (exchange_rules z bytes space)
exchange-smallest z bytes space = given-smallest _ refl

pub column-smallest : (z : Size) (bytes c space : ℕ) → SmallestGiven (column_rules z bytes c space)
column-smallest z bytes c space = given-smallest _ refl

pub close_length-smallest : (z : Size) (bytes columns : ℕ) → SmallestGiven (close_length_rules z bytes columns)
close_length-smallest z bytes columns = given-smallest _ refl

pub close_column-smallest : (w : ℕ) (beyond : Bool) → SmallestGiven (close_column_rules w beyond)
close_column-smallest w beyond = given-smallest _ refl

pub space-smallest : (z : Size) (marked : Bool) (space seam : ℕ) → SmallestGiven (find_space_rules z marked space seam)
space-smallest z marked space seam = given-smallest _ refl
