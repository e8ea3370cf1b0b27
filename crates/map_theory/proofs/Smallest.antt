-- "Of several, the smallest number is given": the rules of a recorded map.
use mathlib.Core.Path.{refl}
use mathlib.Core.Bool.{Bool}
use mathlib.Core.List.{List}
use Prim.Native.Nat.{ℕ}
use Rattle.pictures.specs.Refusals.{SmallestGiven}
use Rattle.pictures.proofs.Rules.{given-smallest}
use Rattle.seam_theory.specs.Choices.{Choice}
use Rattle.map_theory.specs.Judged.{map_rules}

pub map-smallest : {A : Type 0} (near : ℕ → ℕ → ℕ → Bool) (choose : Choice A) (w h k : ℕ) (p : List (List A)) (m : List (List ℕ))
    → SmallestGiven (map_rules near choose w h k p m)
map-smallest near choose w h k p m = given-smallest _ refl
