-- Which path is found: the cheapest, and with marks the preferred one of those that are allowed.
use Rattle.std.specs.Prelude.{◌≡◌, ◌⊎◌, Bool, ◌&&◌, ◌||◌, ℕ, ◌≤◌, ◌<◌, leb, ltb, eqb}
use Rattle.std.proofs.Math.Option.{Option}
use mathlib.Core.List.{List, [], ◌∷◌, Memᴰ}
use Rattle.seam_theory.specs.Best.{first_best, least}
use Rattle.seam_theory.specs.Paths.{select, paths, cost}

-- "The seam found is the cheapest. Among equals it is the one whose columns, read from the bottom row upward, come first
-- in dictionary order": the paths are listed in this order.
abbrev pub cheapest : (ℕ → List ℕ) → (ℕ → ℕ) → (ℕ → ℕ → ℕ → ℕ) → ℕ → ℕ → Option (List ℕ)
cheapest above first step w h = least (cost first step) (paths above w h)

-- Of a path: its pixels marked to be removed, and its price. p is at least as good as q if it has more pixels to be removed,
-- or as many and is at most as dear.
unfoldable pub preferred : (List ℕ → ℕ) → (List ℕ → ℕ) → List ℕ → List ℕ → Bool
preferred removed price p q = ltb (removed q) (removed p) || (eqb (removed p) (removed q) && leb (price p) (price q))

-- "A seam may not touch a protected pixel. Among those left, first the most pixels marked 2, then the least cost, then the
-- order above."
abbrev pub cheapest_allowed : (List ℕ → ℕ) → (List ℕ → ℕ) → (List ℕ → ℕ) → List (List ℕ) → Option (List ℕ)
cheapest_allowed protected removed price xs = first_best (preferred removed price) (select (λ p. eqb (protected p) 0) xs)

-- The strict dictionary order.
abbrev pub Before : List ℕ → List ℕ → Type 0
Before [] [] = ⊥
Before [] (y ∷ ys) = Unit
Before (x ∷ xs) [] = ⊥
Before (x ∷ xs) (y ∷ ys) = (x < y) ⊎ ((x ≡ y) × Before xs ys)

-- A list in ascending order: each element is before all that come after it.
abbrev pub Ascending : {A : Type 0} → (A → A → Type 0) → List A → Type 0
Ascending R [] = Unit
Ascending {A} R (x ∷ xs) = ((y : A) → Memᴰ y xs → R x y) × Ascending R xs

-- What s is, said without an order of listing: one of xs, none is cheaper, and each other of the same price comes after it.
pub record IsCheapest (price : List ℕ → ℕ) (xs : List (List ℕ)) (s : List ℕ) : Type 0 where
  pub member : Memᴰ s xs
  pub cheap : (p : List ℕ) → Memᴰ p xs → price s ≤ price p
  pub early : (p : List ℕ) → Memᴰ p xs → price p ≡ price s → (p ≡ s) ⊎ Before s p

-- The same with marks: one of xs that is allowed, none that is allowed has more pixels to be removed, none of those with as
-- many is cheaper, and each other of those that has the same price comes after it.
pub record IsPreferred (protected removed price : List ℕ → ℕ) (xs : List (List ℕ)) (s : List ℕ) : Type 0 where
  pub member : Memᴰ s xs
  pub allowed : protected s ≡ 0
  pub most : (p : List ℕ) → Memᴰ p xs → protected p ≡ 0 → removed p ≤ removed s
  pub cheap : (p : List ℕ) → Memᴰ p xs → protected p ≡ 0 → removed p ≡ removed s → price s ≤ price p
  pub early : (p : List ℕ) → Memᴰ p xs → protected p ≡ 0 → removed p ≡ removed s → price p ≡ price s → (p ≡ s) ⊎ Before s p
