-- What the private functions of this crate ask and promise, in terms of rows of bytes. No public promise cites it.
use Rattle.std.specs.Prelude.{◌≡◌, false, List, ◌++◌, ℕ, ◌+◌, ◌*◌, ◌≤◌, ◌<◌, length, take, drop}
use Rattle.pictures.specs.Limits.{most_picture}
use Rattle.pictures.specs.declared.sizes.Size.{Size}
use Rattle.pictures.specs.Refusals.{refusal}
use Rattle.pictures.specs.Pictures.{largest_side, size_rules}
use Rattle.seam_bounds.specs.Moves.{outside}

-- A line of bytes without the n bytes from `gap` on.
abbrev pub without : ℕ → ℕ → List ℕ → List ℕ
without gap n line = take gap line ++ drop (gap + n) line

-- A line with n bytes at `gap`, and room for the rest of it.
pub record RowNeeded (line : List ℕ) (gap n : ℕ) (out : List ℕ) : Type 0 where
  pub inside : gap + n ≤ length line
  pub room : length line ≤ length out + n

-- Rows of w cells of n bytes, one for each column of a seam, and each column inside them.
pub record CellsNeeded (b : List ℕ) (n w : ℕ) (s : List ℕ) : Type 0 where
  pub wide : 0 < w
  pub line : w * n ≤ 6 * largest_side
  pub short : length b ≤ most_picture
  pub long : length b ≡ length s * (w * n)
  pub inside : outside w s ≡ false

-- A picture of its size, and a seam with one column inside it for each row.
pub record PixelsNeeded (b : List ℕ) (z : Size) (s : List ℕ) : Type 0 where
  pub sized : refusal (size_rules z (length b)) ≡ 0
  pub columns : length s ≡ z.height
  pub inside : outside z.width s ≡ false
