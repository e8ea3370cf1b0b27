-- A seam's elements taken out of the rows of a grid.
use mathlib.Core.List.{List, [], ◌∷◌, zip_with}
use Rattle.std.specs.Prelude.{ℕ, zero, suc}

-- The list without its i-th element; past the end, the list.
unfoldable pub remove_at : {A : Type 0} → ℕ → List A → List A
remove_at i [] = []
remove_at zero (x ∷ xs) = xs
remove_at (suc i) (x ∷ xs) = x ∷ remove_at i xs

-- Each row without the element at the seam's column. The columns are listed from the top row.
unfoldable pub cut : {A : Type 0} → List ℕ → List (List A) → List (List A)
cut s p = zip_with remove_at s p
