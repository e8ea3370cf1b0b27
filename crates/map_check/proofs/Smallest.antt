-- "Of several, the smallest number is given": the rules of a map recorded in a space.
use mathlib.Core.Path.{refl}
use mathlib.Core.List.{List}
use Prim.Native.Nat.{ℕ}
use Rattle.pictures.specs.declared.sizes.Size.{Size}
use Rattle.pictures.specs.Refusals.{SmallestGiven}
use Rattle.pictures.specs.Pictures.{Picture}
use Rattle.pictures.proofs.Rules.{given-smallest}
use Rattle.energy.specs.declared.methods.Method.{Method}
use Rattle.map_check.specs.Checking.{recorded_rules, judge_rules}

pub recorded-smallest : (z : Size) (how : Method) (depth : ℕ) (p : Picture) (m : List (List ℕ)) → SmallestGiven (recorded_rules z how depth p m)
recorded-smallest z how depth p m = given-smallest _ refl

pub judge_smallest : (z : Size) (how : Method) (depth : ℕ) (space : List ℕ) → SmallestGiven (judge_rules z how depth space)
judge_smallest z how depth space = given-smallest _ refl
