-- The columns in which the pixels left of a row stood at first. What private functions ask and promise; no public promise cites it.
use Rattle.std.specs.Prelude.{◌≡◌, List, map, ℕ, ◌+◌, ◌*◌, ◌<◌, ◌≤◌, length, get_or}
use mathlib.Core.List.{zip_with}
use lib.ListN.{set}
use Rattle.grids.specs.Rows.{rows_of, flat}
use Rattle.grids.specs.Table.{table}
use Rattle.pictures.specs.Limits.{most_side}
use Rattle.pictures.specs.Numbers.{low_byte, high_byte, two_bytes}

-- The number in row r and column c of a plane of numbers whose rows have m of them.
abbrev pub number_in : ℕ → List ℕ → ℕ → ℕ → ℕ
number_in m plane r c = two_bytes (get_or plane (r * (2 * m) + 2 * c) 0) (get_or plane (r * (2 * m) + 2 * c + 1) 0)

-- The first columns of the pixels that a seam takes, from the top row.
abbrev pub taken_columns : ℕ → List ℕ → List ℕ → List ℕ
taken_columns m plane s = table (λ r. number_in m plane r (get_or s r 0)) (length s)

-- A number written into a row of numbers in bytes, and into each row of a map, a column for each.
abbrev pub put_pair : ℕ → ℕ → List ℕ → List ℕ
put_pair v c row = set (set row (2 * c) (low_byte v)) (2 * c + 1) (high_byte v)

abbrev pub put_rows : ℕ → ℕ → List ℕ → List ℕ → List ℕ
put_rows v m columns map = flat (zip_with (put_pair v) columns (rows_of (2 * m) (length columns) map))

-- A plane of first columns and a map, both of m numbers a row and of a row for each column of the seam, and first columns inside the map.
pub record NumberNeeded (m : ℕ) (s plane map : List ℕ) : Type 0 where
  pub narrow : m ≤ most_side
  pub tall : length s ≤ most_side
  pub plane_long : length plane ≡ length s * (2 * m)
  pub map_long : length map ≡ length s * (2 * m)
  pub inside : (r : ℕ) → r < length s → get_or s r 0 < m
  pub first : (r : ℕ) → r < length s → number_in m plane r (get_or s r 0) < m
