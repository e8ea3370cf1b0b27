-- Laws of lists of a known length whose elements all have a property.
use mathlib.Core.Path.{◌≡◌, refl, ap, ap₂}
use mathlib.Core.List.{List, [], ◌∷◌, ◌++◌, map, zip_with, reverse, reverse-cons, Memᴰ}
use Prim.Native.Nat.{ℕ, zero, suc, ◌<◌}
use native.Mathlib.Nat.{le_of_suc-le-suc, suc_inj}
use native.Mathlib.Omega.{arith}
use lib.ListN.{length, get_or}
use Rattle.grids.specs.Each.{Each, Grid, none, more}

pub get_or-map : {A B : Type 0} (f : A → B) (xs : List A) (i : ℕ) (d : A) (z : B) → i < length xs → get_or (map f xs) i z ≡ f (get_or xs i d)
get_or-map f [] i d z h = absurd (omega arith)
get_or-map f (x ∷ xs) zero d z h = refl
get_or-map f (x ∷ xs) (suc i) d z h = get_or-map f xs i d z (le_of_suc-le-suc h)

pub zip_with_at : {A B C : Type 0} (f : A → B → C) (xs : List A) (ys : List B) (i : ℕ) (d : A) (e : B) (z : C) → i < length xs → i < length ys → get_or (zip_with f xs ys) i z ≡ f (get_or xs i d) (get_or ys i e)
unfolding zip_with
zip_with_at f [] ys i d e z h k = absurd (omega arith)
zip_with_at f (x ∷ xs) [] i d e z h k = absurd (omega arith)
zip_with_at f (x ∷ xs) (y ∷ ys) zero d e z h k = refl
zip_with_at f (x ∷ xs) (y ∷ ys) (suc i) d e z h k = zip_with_at f xs ys i d e z (le_of_suc-le-suc h) (le_of_suc-le-suc k)

module _ {A : Type 0} {P : A → Type 0} where
  pub each-length : {n : ℕ} {xs : List A} → Each P n xs → length xs ≡ n
  each-length none = refl
  each-length (more p e) = ap suc (each-length e)

  pub each_at : {n : ℕ} {xs : List A} (i : ℕ) (d : A) → i < n → Each P n xs → P (get_or xs i d)
  each_at i d h none = absurd (omega arith)
  each_at zero d h (more p e) = p
  each_at (suc i) d h (more p e) = each_at i d (le_of_suc-le-suc h) e

  pub each_map : {B : Type 0} {Q : B → Type 0} {n : ℕ} {xs : List A} (f : A → B) → ((x : A) → P x → Q (f x)) → Each P n xs → Each Q n (map f xs)
  each_map f h none = none
  each_map f h (more {x = x} p e) = more (h x p) (each_map f h e)

  -- What is done to each, and then to what that gives, where the two are one; and where the second undoes the first.
  pub each_then : {B C : Type 0} (f : A → B) (g : B → C) (h : A → C) {n : ℕ} {xs : List A} → ((x : A) → P x → g (f x) ≡ h x) → Each P n xs → map g (map f xs) ≡ map h xs
  each_then f g h e none = refl
  each_then f g h e (more {x = x} p r) = ap₂ ◌∷◌ (e x p) (each_then f g h e r)

  pub each_back : {B : Type 0} (f : A → B) (g : B → A) {n : ℕ} {xs : List A} → ((x : A) → P x → g (f x) ≡ x) → Each P n xs → map g (map f xs) ≡ xs
  each_back f g e none = refl
  each_back f g e (more {x = x} p r) = ap₂ ◌∷◌ (e x p) (each_back f g e r)

  pub each_weaken : {Q : A → Type 0} {n : ℕ} {xs : List A} → ((x : A) → P x → Q x) → Each P n xs → Each Q n xs
  each_weaken h none = none
  each_weaken h (more {x = x} p e) = more (h x p) (each_weaken h e)

pub each_snoc : {A : Type 0} {P : A → Type 0} {n : ℕ} {xs : List A} {x : A} → Each P n xs → P x → Each P (suc n) (xs ++ (x ∷ []))
each_snoc none p = more p none
each_snoc (more q e) p = more q (each_snoc e p)

pub each-reverse : {A : Type 0} {P : A → Type 0} {n : ℕ} {xs : List A} → Each P n xs → Each P n (reverse xs)
each-reverse none = none
each-reverse (more {x = x} {xs = xs} p e) = rw (reverse-cons x xs) (each_snoc (each-reverse e) p)

-- Every member has the property.
pub each_member : {A : Type 0} {P : A → Type 0} (xs : List A) → ((x : A) → Memᴰ x xs → P x) → Each P (length xs) xs
each_member [] h = none
each_member (x ∷ xs) h = more (h x (Memᴰ.head refl)) (each_member xs (λ y m. h y (Memᴰ.tail m)))

-- A list as long as n, as n elements of which nothing is asked; and so a grid.
abbrev pub Any : {A : Type 0} → A → Type 0
Any x = Unit

pub each_any : {A : Type 0} (n : ℕ) (xs : List A) → length xs ≡ n → Each Any n xs
each_any zero [] e = none
each_any zero (x ∷ xs) e = absurd (omega arith)
each_any (suc n) [] e = absurd (omega arith)
each_any (suc n) (x ∷ xs) e = more tt (each_any n xs (suc_inj e))

pub grid_any : {A : Type 0} {w n : ℕ} {p : List (List A)} → Grid w n p → Each (Each Any w) n p
grid_any {w} g = each_weaken (λ x e. each_any w x e) g

pub grid_of : {A : Type 0} {P : A → Type 0} {w n : ℕ} {p : List (List A)} → Each (Each P w) n p → Grid w n p
grid_of g = each_weaken (λ x e. each-length e) g
