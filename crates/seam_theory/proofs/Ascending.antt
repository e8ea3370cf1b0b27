-- Lists in strictly ascending order.
use mathlib.Core.Path.{◌≡◌, refl, subst}
use mathlib.Core.Logic.{◌⊎◌, inl, inr, ⊎_elim}
use mathlib.Core.Bool.{Bool, true, false}
use mathlib.Core.List.Memᴰ
use mathlib.Core.List.{List, [], ◌∷◌, ◌++◌, map, flat_map, Memᴰ}
use Prim.Native.Nat.{ℕ, zero, suc, ◌<◌}
use native.Mathlib.Omega.{arith}
use Rattle.seam_theory.specs.Paths.{run, cons_if, select}
use Rattle.seam_theory.specs.Seams.{Before, Ascending}
use Rattle.seam_theory.proofs.Members.{of_run, of_select, of_flat_map}

-- A run ascends.
pub run_asc : (lo n : ℕ) → Ascending ◌<◌ (run lo n)
unfolding run
run_asc lo zero = tt
run_asc lo (suc n) = (λ a m. (of_run (suc lo) n a m).0, run_asc (suc lo) n)

module _ {A : Type 0} (R : A → A → Type 0) where
  -- Two ascending lists, one after the other.
  pub asc_append : (xs ys : List A) → Ascending R xs → Ascending R ys → ((x y : A) → Memᴰ x xs → Memᴰ y ys → R x y) → Ascending R (xs ++ ys)
  asc_append [] ys p q h = q
  asc_append (x ∷ xs) ys p q h = (
    λ y m. ⊎_elim (p.0 y) (h x y (Memᴰ.head refl)) (Memᴰ.append_cases xs m),
    asc_append xs ys p.1 q (λ a b m n. h a b (Memᴰ.tail m) n),
  )

  -- What stands after m in the list comes after it in the order.
  pub asc_after : (xs : List A) (m : A) (ys : List A) → Ascending R (xs ++ m ∷ ys) → (y : A) → Memᴰ y ys → R m y
  asc_after [] m ys p = p.0
  asc_after (x ∷ xs) m ys p = asc_after xs m ys p.1

  -- A selection keeps the order.
  pub asc_select : (t : A → Bool) (xs : List A) → Ascending R xs → Ascending R (select t xs)
  unfolding select
  asc_select t [] p = tt
  asc_select t (x ∷ xs) p = go (t x) (asc_select t xs p.1)
    where
      go : (b : Bool) → Ascending R (select t xs) → Ascending R (cons_if b x (select t xs))
      go true q = (λ y m. p.0 y (of_select t xs y m).0, q)
      go false q = q

module _ {A B : Type 0} (R : A → A → Type 0) (S : B → B → Type 0) where
  -- The images of an ascending list, where f keeps the order.
  pub asc_map : (f : A → B) → ((x y : A) → R x y → S (f x) (f y)) → (xs : List A) → Ascending R xs → Ascending S (map f xs)
  asc_map f h [] p = tt
  asc_map f h (x ∷ xs) p = (λ y m. image y (Memᴰ.of_map f xs m), asc_map f h xs p.1)
    where
      image : (y : B) → (a : A) × Memᴰ a xs × (f a ≡ y) → S (f x) y
      image y t = subst (S (f x)) t.2 (h x t.0 (p.0 t.0 t.1))

  -- Ascending lists, one for each member of an ascending list.
  pub asc_flat_map : (g : A → List B) → ((a b : A) → R a b → (x y : B) → Memᴰ x (g a) → Memᴰ y (g b) → S x y)
      → ((a : A) → Ascending S (g a)) → (xs : List A) → Ascending R xs → Ascending S (flat_map g xs)
  unfolding flat_map
  asc_flat_map g h k [] p = tt
  asc_flat_map g h k (x ∷ xs) p = asc_append S (g x) (flat_map g xs) (k x) (asc_flat_map g h k xs p.1) (λ a b m n. cross a b m (of_flat_map g xs n))
    where
      cross : (a b : B) → Memᴰ a (g x) → (c : A) × Memᴰ c xs × Memᴰ b (g c) → S a b
      cross a b m t = h x t.0 (p.0 t.0 t.1) a b m t.2

-- Of two lists of numbers not each comes before the other.
pub before_asym : (p q : List ℕ) → Before p q → Before q p → ⊥
before_asym [] [] h k = h
before_asym [] (y ∷ q) h k = k
before_asym (x ∷ p) [] h k = h
before_asym (x ∷ p) (y ∷ q) h k = go (before_asym p q) h k
  where
    go : (Before p q → Before q p → ⊥) → (x < y) ⊎ ((x ≡ y) × Before p q) → (y < x) ⊎ ((y ≡ x) × Before q p) → ⊥
    go ih (inl a) (inl b) = omega arith
    go ih (inl a) (inr b) = omega arith
    go ih (inr a) (inl b) = omega arith
    go ih (inr a) (inr b) = ih a.1 b.1
