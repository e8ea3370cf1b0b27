-- Laws of the first element that costs least.
use mathlib.Core.Path.{◌≡◌}
use mathlib.Core.Bool.{Bool}
use mathlib.Core.Option
use mathlib.Core.List.{List, ◌++◌, map, flat_map, Memᴰ}
use Prim.Native.Nat.{ℕ, ◌+◌}
use native.Mathlib.Nat.{le_trans, le_of_lt}
use lib.Dec.{leb}
use borrow.Author.Tests.{leb-true, leb-false, le-leb}
use Rattle.seam_theory.specs.Best.{better, least}
use Rattle.seam_theory.proofs.Numbers.{leb_add}
use Rattle.seam_theory.proofs.Best.{best_of, best_map, best_same}
use Rattle.seam_theory.proofs.Ordered.{Order, best_append, best_flat_map}

module _ {A : Type 0} (f : A → ℕ) where
  -- The order by cost.
  abbrev pub by_cost : A → A → Bool
  by_cost x y = leb (f x) (f y)

  -- It is a total preorder.
  pub cost_order : Order by_cost
  cost_order = record {
    total = λ x y e. le-leb (f y) (f x) (le_of_lt (leb-false (f x) (f y) e));
    trans = λ x y z p q. le-leb (f x) (f z) (le_trans (leb-true (f x) (f y) p) (leb-true (f y) (f z) q));
  }

  -- Of two lists, one after the other.
  pub least-append : (xs ys : List A) → least f (xs ++ ys) ≡ better by_cost (least f xs) (least f ys)
  least-append = best_append by_cost cost_order

  -- Of a list for each element of another.
  pub least_flat_map : {B : Type 0} (g : B → List A) (bs : List B) → least f (flat_map g bs) ≡ best_of by_cost (λ b. least f (g b)) bs
  least_flat_map = best_flat_map by_cost cost_order

-- Of a list of images.
pub least-map : {A B : Type 0} (h : A → B) (f : B → ℕ) (xs : List A) → least f (map h xs) ≡ Option.map h (least (λ a. f (h a)) xs)
least-map h f = best_map h (by_cost f)

-- Two costs that differ by the same amount at each element choose alike.
pub least_shift : {A : Type 0} (f g : A → ℕ) (k : ℕ) (xs : List A) → ((x : A) → Memᴰ x xs → f x ≡ g x + k) → least f xs ≡ least g xs
least_shift f g k xs e = best_same (by_cost f) (by_cost g) xs (λ x y i j. rw (e x i, e y j) (leb_add (g x) (g y) k))

-- And so do two costs that agree.
pub least-same : {A : Type 0} (f g : A → ℕ) (xs : List A) → ((x : A) → Memᴰ x xs → f x ≡ g x) → least f xs ≡ least g xs
least-same f g xs e = best_same (by_cost f) (by_cost g) xs (λ x y i j. rw (e x i, e y j))
