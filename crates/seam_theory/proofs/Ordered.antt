-- Laws of the first best element by an order on all elements.
use mathlib.Core.Path.{◌≡◌, refl, sym, ap, ◌∙◌}
use mathlib.Core.Bool.{Bool, true, false, true≢false}
use mathlib.Core.Option.{Option, none, some}
use mathlib.Core.List.{List, [], ◌∷◌, ◌++◌, flat_map}
use Rattle.seam_theory.specs.Best.{better, first_best}
use Rattle.seam_theory.proofs.Best.{better-left, better_right, better-none, best_of}

-- A total preorder: of two elements one is at least as good as the other.
pub record Order {A : Type 0} (le : A → A → Bool) : Type 0 where
  pub total : (x y : A) → le x y ≡ false → le y x ≡ true
  pub trans : (x y z : A) → le x y ≡ true → le y z ≡ true → le x z ≡ true

module _ {A : Type 0} (le : A → A → Bool) (order : Order le) where
  -- An element is as good as itself.
  pub le_self : (x : A) → le x x ≡ true
  le_self x = go (le x x) refl
    where
      go : (t : Bool) → le x x ≡ t → le x x ≡ true
      go true e = e
      go false e = order.total x x e

  -- Worse than a worse one.
  pub worse_trans : (x y z : A) → le x y ≡ false → le y z ≡ false → le x z ≡ false
  worse_trans x y z p q = go (le x z) refl
    where
      go : (t : Bool) → le x z ≡ t → le x z ≡ false
      go true e = absurd (true≢false (sym (order.trans x z y e (order.total y z q)) ∙ p))
      go false e = e

  assoc_some : (x y z : A) → better le (better le (some x) (some y)) (some z) ≡ better le (some x) (better le (some y) (some z))
  assoc_some x y z = go (le x y) (le y z) refl refl
    where
      go : (s t : Bool) → le x y ≡ s → le y z ≡ t → better le (better le (some x) (some y)) (some z) ≡ better le (some x) (better le (some y) (some z))
      go true true p q = rw (better-left le x y p, better-left le y z q, better-left le x y p) (better-left le x z (order.trans x y z p q))
      go true false p q = rw (better-left le x y p, better_right le y z q)
      go false true p q = rw (better_right le x y p, better-left le y z q) (sym (better_right le x y p))
      go false false p q = rw (better_right le x y p, better_right le y z q) (sym (better_right le x z (worse_trans x y z p q)))

  -- Of three candidates it does not matter which two are compared first.
  pub better_assoc : (x y z : Option A) → better le (better le x y) z ≡ better le x (better le y z)
  unfolding better
  better_assoc none y z = refl
  better_assoc (some x) none z = refl
  better_assoc (some x) (some y) none = better-none le (better le (some x) (some y))
  better_assoc (some x) (some y) (some z) = assoc_some x y z

  -- Of two lists, one after the other.
  pub best_append : (xs ys : List A) → first_best le (xs ++ ys) ≡ better le (first_best le xs) (first_best le ys)
  unfolding first_best better
  best_append [] ys = refl
  best_append (x ∷ xs) ys = rw (best_append xs ys) (sym (better_assoc (some x) (first_best le xs) (first_best le ys)))

  -- Of a list for each element of another.
  pub best_flat_map : {B : Type 0} (g : B → List A) (bs : List B) → first_best le (flat_map g bs) ≡ best_of le (λ b. first_best le (g b)) bs
  unfolding first_best best_of flat_map
  best_flat_map g [] = refl
  best_flat_map g (b ∷ bs) = best_append (g b) (flat_map g bs) ∙ ap (better le (first_best le (g b))) (best_flat_map g bs)
