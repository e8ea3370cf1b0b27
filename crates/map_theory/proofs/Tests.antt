-- Tests that compute, and what they say.
use mathlib.Core.Path.{◌≡◌, refl, sym, ap, ap₂, ◌∙◌}
use mathlib.Core.Logic.{◌↔◌, ⊎_elim}
use mathlib.Core.Bool.{Bool, true}
use mathlib.Core.List.Memᴰ
use mathlib.Core.List.{List, [], ◌∷◌, Memᴰ}
use Prim.Native.Nat.{ℕ, ◌≤◌}
use native.Mathlib.Omega.{arith}
use lib.Dec.{eqb}
use borrow.Author.Tests.{eqb-true, eq-eqb}
use Rattle.grids.specs.Each.{Each, none, more}
use Rattle.grids.proofs.Bools.{both}
pub use Rattle.grids.proofs.Bools.{and_both}
use Rattle.seam_theory.specs.Paths.{run}
use Rattle.seam_theory.proofs.Members.{of_run, in_run}
use Rattle.map_theory.specs.Judged.{every, same}

module _ {A : Type 0} (f : A → Bool) where
  -- Every element passes a test just where each member does.
  pub every-mem : (xs : List A) → (every f xs ≡ true) ↔ ((x : A) → Memᴰ x xs → f x ≡ true)
  every-mem xs = (there xs, back xs)
    where
      there : (xs : List A) → every f xs ≡ true → (x : A) → Memᴰ x xs → f x ≡ true
      there [] e x m = absurd (Memᴰ.not-nil m)
      there (y ∷ xs) e x m =
          let b = both (f y) (every f xs) e in
          ⊎_elim (λ q. ap f q ∙ b.0) (there xs b.1 x) (Memᴰ.cases_cons m)

      back : (xs : List A) → ((x : A) → Memᴰ x xs → f x ≡ true) → every f xs ≡ true
      back [] h = refl
      back (y ∷ xs) h = and_both (f y) (every f xs) (h y (Memᴰ.head refl)) (back xs (λ x m. h x (Memᴰ.tail m)))

  -- For rows of a grid, or any elements of a known number.
  pub every-each : {P Q : A → Type 0} {n : ℕ} {xs : List A} → ((x : A) → f x ≡ true → P x) → Each Q n xs → every f xs ≡ true → Each P n xs
  every-each h none e = none
  every-each h (more {x = x} {xs = xs} q k) e = let b = both (f x) (every f xs) e in more (h x b.0) (every-each h k b.1)

  pub each-every : {P : A → Type 0} {n : ℕ} {xs : List A} → ((x : A) → P x → f x ≡ true) → Each P n xs → every f xs ≡ true
  each-every h none = refl
  each-every h (more {x = x} {xs = xs} p k) = and_both (f x) (every f xs) (h x p) (each-every h k)

-- For the numbers 1 to k.
pub every-run : (f : ℕ → Bool) (k : ℕ) → (every f (run 1 k) ≡ true) ↔ ((t : ℕ) → 1 ≤ t → t ≤ k → f t ≡ true)
every-run f k = (
  λ e t l h. (every-mem f (run 1 k)).0 e t (in_run 1 k t l (omega arith)),
  λ h. (every-mem f (run 1 k)).1 (λ t m. let r = of_run 1 k t m in h t r.0 (omega (arith, r.1))),
)

-- Lists that the test finds the same are the same.
pub same_is : (s t : List ℕ) → (same s t ≡ true) ↔ (s ≡ t)
same_is s t = (there s t, λ e. ap (same s) (sym e) ∙ self s)
  where
    there : (s t : List ℕ) → same s t ≡ true → s ≡ t
    there [] [] e = refl
    there [] (d ∷ t) e = cc
    there (c ∷ s) [] e = cc
    there (c ∷ s) (d ∷ t) e =
        let b = both (eqb c d) (same s t) e in
        ap₂ ◌∷◌ (eqb-true c d b.0) (there s t b.1)

    self : (s : List ℕ) → same s s ≡ true
    self [] = refl
    self (c ∷ s) = and_both (eqb c c) (same s s) (eq-eqb c c refl) (self s)
