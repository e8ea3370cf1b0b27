-- The columns of a row's numbers. What private functions ask and promise; no public promise cites it.
use Rattle.std.specs.Prelude.{◌≡◌, List, [], ◌∷◌, ℕ, ◌+◌, ◌≤◌, ◌<◌, length, get_or}
use Rattle.pictures.specs.Pictures.{largest_side}
use Rattle.map_theory.specs.Judged.{tick, count, remains, column_of}

-- How many pixels of these numbers are left before seam t.
abbrev pub left_in : ℕ → List ℕ → ℕ
left_in t [] = 0
left_in t (v ∷ ys) = tick (remains t v) (left_in t ys)

-- A place c of a row of which all but t - 1 pixels are left before seam t.
pub record AheadNeeded (row : List ℕ) (c t : ℕ) : Type 0 where
  pub short : length row ≤ largest_side
  pub inside : c < length row
  pub left : left_in t row + t ≡ length row + 1

-- A row whose numbers each have a place among n columns, and of which all but t - 1 pixels are left before each seam t in it.
pub record FillNeeded (row : List ℕ) (n : ℕ) : Type 0 where
  pub short : length row ≤ largest_side
  pub below : (c : ℕ) → get_or row c 0 < n
  pub left : (c : ℕ) → 1 ≤ get_or row c 0 → left_in (get_or row c 0) row + get_or row c 0 ≡ length row + 1

-- The t-th is the column of number t, for each number but 0 that stands in the row once.
pub record ColumnsOf (row columns : List ℕ) : Type 0 where
  pub column : (t : ℕ) → 1 ≤ t → count t row ≡ 1 → get_or columns t 0 ≡ column_of t row
