-- What the private functions of this crate ask and promise, in terms of rows of bytes. No public promise cites it.
use Rattle.std.specs.Prelude.{◌≡◌, false, List, ◌++◌, ℕ, ◌+◌, ◌-◌, ◌*◌, ◌≤◌, length, take, drop}
use Rattle.pictures.specs.Limits.{most_side}
use Rattle.seam_bounds.specs.Moves.{outside}

-- A row without the n bytes from `gap` on, and then its last n bytes again, so that it is as long.
abbrev pub closed : ℕ → ℕ → List ℕ → List ℕ
closed n gap row = take gap row ++ (drop (gap + n) row ++ drop (length row - n) row)

-- A row with n bytes at `gap`, and a line that has room for it.
pub record RowNeeded (row : List ℕ) (gap n : ℕ) (line : List ℕ) : Type 0 where
  pub inside : gap + n ≤ length row
  pub room : length row ≤ length line

-- Rows of m cells of n bytes, one for each column of a seam, of which the first w count, and a seam inside these.
pub record RowsNeeded (n m w : ℕ) (s b : List ℕ) : Type 0 where
  pub few : n ≤ 6
  pub narrow : m ≤ most_side
  pub low : length s ≤ most_side
  pub left : w ≤ m
  pub long : length b ≡ length s * (m * n)
  pub inside : outside w s ≡ false

-- h rows of m bytes, of which the first k go to the front.
pub record PackNeeded (m k h : ℕ) (b : List ℕ) : Type 0 where
  pub narrow : m ≤ 6 * most_side
  pub low : h ≤ most_side
  pub left : k ≤ m
  pub long : length b ≡ h * m
