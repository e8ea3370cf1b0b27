-- A price by steps and what each pixel adds are one sum, so that the weights of marks work for any price; and the bound of a
-- price.
use mathlib.Core.Path.{◌≡◌, refl, ap, ap₂, ◌∙◌}
use mathlib.Core.List.{List, [], ◌∷◌}
use Prim.Native.Nat.{ℕ, suc, ◌+◌, ◌*◌, ◌≤◌}
use native.Mathlib.Nat.{suc-mul}
use native.Mathlib.Omega.{arith}
use lib.ListN.{length}
use Rattle.seam_theory.specs.Paths.{cost, along}
use Rattle.seam_theory.proofs.Along.{along-add, along-mul}
use Rattle.seam_theory.proofs.Weights.{weight}

module _ (first : ℕ → ℕ) (step : ℕ → ℕ → ℕ → ℕ) where
  -- What each pixel adds is added once.
  pub cost-add : (v : ℕ → ℕ → ℕ) (f : ℕ → ℕ) (s : ℕ → ℕ → ℕ → ℕ) → ((c : ℕ) → f c ≡ first c + v 0 c) → ((i a c : ℕ) → s i a c ≡ step i a c + v i c)
      → (p : List ℕ) → cost f s p ≡ cost first step p + along v p
  unfolding cost
  cost-add v f s d e [] = refl
  cost-add v f s d e (c ∷ []) = d c
  cost-add v f s d e (c ∷ a ∷ p) = omega (arith, cost-add v f s d e (a ∷ p), e (suc (length p)) a c)

  -- So price, pixels kept and protected pixels are one sum.
  pub cost-weight : (k q : ℕ → ℕ → ℕ) (B T : ℕ) (f : ℕ → ℕ) (s : ℕ → ℕ → ℕ → ℕ)
      → ((c : ℕ) → f c ≡ first c + (k 0 c * B + q 0 c * T)) → ((i a c : ℕ) → s i a c ≡ step i a c + (k i c * B + q i c * T))
      → (p : List ℕ) → cost f s p ≡ weight (along q) (along k) (cost first step) B T p
  cost-weight k q B T f s d e p =
      cost-add (λ r c. k r c * B + q r c * T) f s d e p
      ∙ ap (cost first step p +◌) (along-add (λ r c. k r c * B) (λ r c. q r c * T) p ∙ ap₂ ◌+◌ (along-mul k B p) (along-mul q T p))

  -- A price is at most the largest cost for each row.
  pub cost_most : (m : ℕ) → ((c : ℕ) → first c ≤ m) → ((i a c : ℕ) → step i a c ≤ m) → (p : List ℕ) → cost first step p ≤ length p * m
  unfolding cost
  cost_most m h k [] = omega arith
  cost_most m h k (c ∷ []) = omega (arith, h c, suc-mul 0 m)
  cost_most m h k (c ∷ a ∷ p) = omega (arith, cost_most m h k (a ∷ p), k (suc (length p)) a c, suc-mul (suc (length p)) m)
