-- Laws of the first best element.
use mathlib.Core.Path.{◌≡◌, refl, sym, ◌∙◌}
use mathlib.Core.Logic.{◌↔◌}
use mathlib.Core.Bool.{Bool, true, false, cond}
use mathlib.Core.Option
use mathlib.Core.Option.{Option, none, some, none-ne-some, some-ne-none}
use mathlib.Core.List.Memᴰ
use mathlib.Core.List.{List, [], ◌∷◌, map, Memᴰ}
use Prim.Native.Nat.{ℕ}
use native.Mathlib.Omega.{arith}
use Rattle.seam_theory.specs.Best.{better, first_best}

module _ {A : Type 0} (le : A → A → Bool) where
  -- The first of two, where it is at least as good.
  pub better-left : (x y : A) → le x y ≡ true → better le (some x) (some y) ≡ some x
  unfolding better
  better-left x y e = rw e

  -- The second, where the first is not.
  pub better_right : (x y : A) → le x y ≡ false → better le (some x) (some y) ≡ some y
  unfolding better
  better_right x y e = rw e

  -- `none` is a unit.
  pub better-none : (o : Option A) → better le o none ≡ o
  unfolding better
  better-none none = refl
  better-none (some x) = refl

  -- The best of the candidates that g has for each element of a list.
  unfoldable pub best_of : {B : Type 0} → (B → Option A) → List B → Option A
  best_of g [] = none
  best_of g (b ∷ bs) = better le (g b) (best_of g bs)

  -- Candidates that agree at the elements have the same best.
  pub best_of-same : {B : Type 0} (g k : B → Option A) (bs : List B) → ((b : B) → Memᴰ b bs → g b ≡ k b) → best_of g bs ≡ best_of k bs
  unfolding best_of
  best_of-same g k [] e = refl
  best_of-same g k (b ∷ bs) e = rw (e b (Memᴰ.head refl), best_of-same g k bs (λ c m. e c (Memᴰ.tail m)))

  -- There is none just where there is no element.
  pub best_none : (xs : List A) → (first_best le xs ≡ none) ↔ (xs ≡ [])
  unfolding first_best
  best_none [] = (λ e. refl, λ e. refl)
  best_none (x ∷ xs) = (λ e. absurd (go (first_best le xs) e), λ e. let z : ◌≡◌ {A = ℕ} 0 1 = cc in absurd (omega arith))
    where
      one : (y : A) (t : Bool) → le x y ≡ t → better le (some x) (some y) ≡ none → ⊥
      one y true l q = some-ne-none x (sym (better-left x y l) ∙ q)
      one y false l q = some-ne-none y (sym (better_right x y l) ∙ q)

      go : (o : Option A) → better le (some x) o ≡ none → ⊥
      go none q = some-ne-none x (sym (better-none (some x)) ∙ q)
      go (some y) q = one y (le x y) refl q

  -- Where there is an element there is a first best.
  pub best_some : (xs : List A) (x : A) → Memᴰ x xs → (m : A) × (first_best le xs ≡ some m)
  best_some xs x i = go (first_best le xs) refl
    where
      go : (o : Option A) → first_best le xs ≡ o → (m : A) × (first_best le xs ≡ some m)
      go none e = absurd (Memᴰ.not-nil (rw ((best_none xs).0 e) at i))
      go (some m) e = (m, e)

  -- The first best is an element.
  pub best_mem : (xs : List A) (m : A) → first_best le xs ≡ some m → Memᴰ m xs
  unfolding first_best
  best_mem [] m e = absurd (none-ne-some m e)
  best_mem (x ∷ xs) m e = go (best_mem xs) (first_best le xs) refl e
    where
      one : (y : A) → Memᴰ y xs → (t : Bool) → le x y ≡ t → better le (some x) (some y) ≡ some m → Memᴰ m (x ∷ xs)
      one y i true l q = let same : m ≡ x = cc (better-left x y l) in Memᴰ.head same
      one y i false l q = let same : m ≡ y = cc (better_right x y l) in Memᴰ.tail (Memᴰ.cast same i)

      go : ((y : A) → first_best le xs ≡ some y → Memᴰ y xs) → (o : Option A) → first_best le xs ≡ o → better le (some x) o ≡ some m → Memᴰ m (x ∷ xs)
      go ih none r q = let same : m ≡ x = cc (better-none (some x)) in Memᴰ.head same
      go ih (some y) r q = one y (ih y r) (le x y) refl q

-- Of the images of a list the first best is the image of the first best, by the order of the images.
module _ {A B : Type 0} (h : A → B) (le : B → B → Bool) where
  abbrev image : A → A → Bool
  image a b = le (h a) (h b)

  better-map : (x y : Option A) → better le (Option.map h x) (Option.map h y) ≡ Option.map h (better image x y)
  unfolding better
  better-map none y = refl
  better-map (some x) none = refl
  better-map (some x) (some y) = go (le (h x) (h y))
    where
      go : (t : Bool) → cond t (some (h x)) (some (h y)) ≡ Option.map h (cond t (some x) (some y))
      go true = refl
      go false = refl

  -- Of a list of images.
  pub best_map : (xs : List A) → first_best le (map h xs) ≡ Option.map h (first_best (λ a b. le (h a) (h b)) xs)
  unfolding first_best
  best_map [] = refl
  best_map (x ∷ xs) = rw (best_map xs) (better-map (some x) (first_best image xs))

  -- Of one candidate for each element.
  pub best_of-map : (xs : List A) → best_of le (λ a. some (h a)) xs ≡ Option.map h (first_best (λ a b. le (h a) (h b)) xs)
  unfolding first_best best_of
  best_of-map [] = refl
  best_of-map (x ∷ xs) = rw (best_of-map xs) (better-map (some x) (first_best image xs))

-- Two orders that agree on the elements choose alike.
pub best_same : {A : Type 0} (le le' : A → A → Bool) (xs : List A)
    → ((x y : A) → Memᴰ x xs → Memᴰ y xs → le x y ≡ le' x y) → first_best le xs ≡ first_best le' xs
unfolding first_best better
best_same le le' [] e = refl
best_same {A} le le' (x ∷ xs) e = rw (best_same le le' xs (λ y z i j. e y z (Memᴰ.tail i) (Memᴰ.tail j))) (go (first_best le' xs) refl)
  where
    go : (o : Option A) → first_best le' xs ≡ o → better le (some x) o ≡ better le' (some x) o
    go none r = refl
    go (some y) r = rw (e x y (Memᴰ.head refl) (Memᴰ.tail (best_mem le' xs y r)))
