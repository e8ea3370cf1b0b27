-- From a flat list to rows, and back.
use Rattle.std.specs.Prelude.{List, [], ◌∷◌, ◌++◌, map, ℕ, zero, suc, ◌*◌, take, drop}

-- n rows of w elements, from the front of a list.
abbrev pub rows_of : {A : Type 0} → ℕ → ℕ → List A → List (List A)
rows_of w zero b = []
rows_of w (suc n) b = take w b ∷ rows_of w n (drop w b)

-- The rows, one after the other.
abbrev pub flat : {A : Type 0} → List (List A) → List A
flat [] = []
flat (x ∷ xs) = x ++ flat xs

-- Row r of a flat list whose rows have w elements.
abbrev pub row_at : {A : Type 0} → ℕ → ℕ → List A → List A
row_at w r b = take w (drop (r * w) b)

-- Cells of n elements, w in each of h rows, from the front of a flat list; and all cells, one after the other.
unfoldable pub cells : {A : Type 0} → ℕ → ℕ → ℕ → List A → List (List (List A))
cells n w h b = map (rows_of n w) (rows_of (w * n) h b)

unfoldable pub flat_cells : {A : Type 0} → List (List (List A)) → List A
flat_cells p = flat (map flat p)
