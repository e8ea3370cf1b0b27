-- Costs that are alike wherever a path comes from: the sums above decide, and a path's cost is a sum over its pixels.
use mathlib.Core.Path.{◌≡◌, refl, ap, ap₂, ◌∙◌}
use mathlib.Core.Logic.{inr}
use mathlib.Core.Bool.{true, false, cond}
use mathlib.Core.List.{List, [], ◌∷◌}
use Prim.Native.Nat.{ℕ, suc, ◌+◌, min}
use native.Mathlib.Omega.{arith}
use lib.Dec.{leb}
use lib.ListN.{length, get_or}
use Rattle.pictures.specs.Pictures.{Picture}
use Rattle.energy.specs.declared.methods.Method.{Method}
use Rattle.energy.specs.Energy.{one_cost, costs_at, energy, energies, step_of}
use Rattle.energy.proofs.Steps.{costs-alike, step-energy}
use Rattle.seam_theory.specs.Paths.{cost, along}
use Rattle.seam_theory.specs.PictureSeams.{path_cost}
use Rattle.seam_theory.specs.Sums.{first_of3, alike_rows, way_above, cost_rows, sum_of3, way_of3}
use Rattle.seam_theory.proofs.Numbers.{leb_add}
use Rattle.seam_theory.proofs.Ways.{way_plain}

-- What is added to three numbers alike doesn't change which is the least,
first-add : (x y z n : ℕ) → first_of3 (x + n) (y + n) (z + n) ≡ first_of3 x y z
unfolding first_of3
first-add x y z n =
    let m : min (y + n) (z + n) ≡ min y z + n = omega arith in
    ap₂ (λ a b. cond a 0 (cond b 1 2)) (ap (leb (x + n)) m ∙ leb_add x (min y z) n) (leb_add y z n)

-- so that the way is by the sums above alone,
pub way_alike : (w : ℕ) (x k : List ℕ) (c : ℕ) → way_of3 false w x (alike_rows k) c ≡ way_above x c
way_alike w x k c =
    way_plain false w x (alike_rows k) c (inr refl) (inr refl)
    ∙ first-add (get_or x c 0) (get_or x (c + 1) 0) (get_or x (c + 2) 0) (get_or k c 0)

-- and the sum is the least of these and the cost.
pub sum_alike : (x k : List ℕ) (c : ℕ) → sum_of3 x (alike_rows k) c ≡ min (get_or x c 0) (min (get_or x (c + 1) 0) (get_or x (c + 2) 0)) + get_or k c 0
unfolding sum_of3
sum_alike x k c = omega arith

-- A path whose steps cost what its pixels do.
pub cost_along_lem : (first : ℕ → ℕ) (step : ℕ → ℕ → ℕ → ℕ) (v : ℕ → ℕ → ℕ) → ((c : ℕ) → first c ≡ v 0 c) → ((i a c : ℕ) → step i a c ≡ v i c)
    → (q : List ℕ) → cost first step q ≡ along v q
unfolding cost
cost_along_lem first step v f g [] = refl
cost_along_lem first step v f g (c ∷ []) = f c
cost_along_lem first step v f g (c ∷ a ∷ q) = ap₂ ◌+◌ (cost_along_lem first step v f g (a ∷ q)) (g (suc (length q)) a c)

-- By a rule of one cost:
module _ (how : Method) (one : one_cost how.energy ≡ true) (w h : ℕ) (p : Picture) where
  -- "Its cost is the sum of its energies."
  pub cost-energies : (q : List ℕ) → path_cost how w h p q ≡ along (energy how w h p) q
  cost-energies = cost_along_lem (energy how w h p 0) (step_of how w h p) (energy how w h p) (λ c. refl) (step-energy how one w h p)

  -- The costs of a row are its energies.
  pub rows_alike : (i : ℕ) → cost_rows w (costs_at how w h p i) ≡ alike_rows (energies how w h p i)
  rows_alike i =
      ap (cost_rows w) (λ j c. costs-alike how one w h p i c j)
