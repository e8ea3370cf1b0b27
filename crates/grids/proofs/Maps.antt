-- What is done to every element of a grid commutes with cutting and exchanging it; and grids of one sample a pixel.
use mathlib.Core.Path.{◌≡◌, refl, ap, ap₂, ◌∙◌}
use mathlib.Core.List.{List, [], ◌∷◌, map, zip_with}
use Prim.Native.Nat.{ℕ, zero, suc}
use native.Mathlib.Omega.{arith}
use lib.ListN.{length, replicate}
use Rattle.grids.specs.Rows.{rows_of, flat}
use Rattle.grids.specs.Exchange.{exchange}
use Rattle.grids.specs.Cut.{remove_at, cut}

module _ {A B : Type 0} (f : A → B) where
  pub remove_at-map : (i : ℕ) (xs : List A) → remove_at i (map f xs) ≡ map f (remove_at i xs)
  unfolding remove_at
  remove_at-map i [] = refl
  remove_at-map zero (x ∷ xs) = refl
  remove_at-map (suc i) (x ∷ xs) = ap (f x ∷◌) (remove_at-map i xs)

  pub cut-map : (s : List ℕ) (p : List (List A)) → cut s (map (map f) p) ≡ map (map f) (cut s p)
  unfolding cut zip_with
  cut-map [] p = refl
  cut-map (c ∷ s) [] = refl
  cut-map (c ∷ s) (x ∷ p) = ap₂ ◌∷◌ (remove_at-map c x) (cut-map s p)

  join-map : (x : List A) (q : List (List A)) → zip_with ◌∷◌ (map f x) (map (map f) q) ≡ map (map f) (zip_with ◌∷◌ x q)
  unfolding zip_with
  join-map [] q = refl
  join-map (a ∷ x) [] = refl
  join-map (a ∷ x) (y ∷ q) = ap ((f a ∷ map f y) ∷◌) (join-map x q)

  blank-map : (w : ℕ) → replicate w [] ≡ map (map f) (replicate w [])
  blank-map zero = refl
  blank-map (suc w) = ap ([] ∷◌) (blank-map w)

  pub exchange-map : (w : ℕ) (p : List (List A)) → exchange w (map (map f) p) ≡ map (map f) (exchange w p)
  unfolding exchange
  exchange-map w [] = blank-map w
  exchange-map w (x ∷ p) = ap (zip_with ◌∷◌ (map f x)) (exchange-map w p) ∙ join-map x (exchange w p)

-- A pixel of one sample.
abbrev pub single : {A : Type 0} → A → List A
single a = a ∷ []

module _ {A : Type 0} where
  pub rows_of-single : (n : ℕ) (x : List A) → length x ≡ n → rows_of 1 n x ≡ map single x
  rows_of-single zero [] e = refl
  rows_of-single zero (a ∷ x) e = absurd (omega arith)
  rows_of-single (suc n) [] e = absurd (omega arith)
  rows_of-single (suc n) (a ∷ x) e = ap (single a ∷◌) (rows_of-single n x (omega arith))

  flat-single : (x : List A) → flat (map single x) ≡ x
  flat-single [] = refl
  flat-single (a ∷ x) = ap (a ∷◌) (flat-single x)

  pub rows-single : (p : List (List A)) → map flat (map (map single) p) ≡ p
  rows-single [] = refl
  rows-single (x ∷ p) = ap₂ ◌∷◌ (flat-single x) (rows-single p)
