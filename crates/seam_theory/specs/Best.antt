-- The first best element of a list.
use Rattle.std.specs.Prelude.{Bool, cond, List, [], ◌∷◌, ℕ, leb}
use Rattle.std.proofs.Math.Option.{Option, none, some}

-- le x y: x is at least as good as y.
module _ {A : Type 0} (le : A → A → Bool) where
  -- The better of two candidates, and the first where neither is better.
  unfoldable pub better : Option A → Option A → Option A
  better none y = y
  better (some x) none = some x
  better (some x) (some y) = cond (le x y) (some x) (some y)

  -- The first of the best elements; none where there is no element.
  unfoldable pub first_best : List A → Option A
  first_best [] = none
  first_best (x ∷ xs) = better (some x) (first_best xs)

-- The first of the elements that cost least.
abbrev pub least : {A : Type 0} → (A → ℕ) → List A → Option A
least f = first_best (λ x y. leb (f x) (f y))
