-- What the private functions of this crate ask and promise, in terms of rows of bytes. No public promise cites it.
use Rattle.std.specs.Prelude.{◌≡◌, List, [], ℕ, ◌*◌, ◌≤◌, ◌<◌, length, get_or}
use Rattle.grids.specs.Rows.{flat, cells}
use Rattle.grids.specs.Exchange.{exchange}
use Rattle.pictures.specs.Limits.{most_row, most_picture}
use Rattle.pictures.specs.declared.sizes.Size.{Size}
use Rattle.pictures.specs.Refusals.{refusal}
use Rattle.pictures.specs.Pictures.{pixel_bytes, picture_bytes, size_rules}

-- Column c of h rows of w cells, each of n bytes: row c of the exchanged cells.
abbrev pub column_cells : ℕ → ℕ → ℕ → List ℕ → ℕ → List ℕ
column_cells n w h b c = flat (get_or (exchange w (cells n w h b)) c [])

-- Such rows, a column of them, and room for it.
pub record ColumnCellsNeeded (n w h : ℕ) (b : List ℕ) (c : ℕ) (out : List ℕ) : Type 0 where
  pub long : length b ≡ h * (w * n)
  pub short : length b ≤ most_picture
  pub row : w * n ≤ most_row
  pub column : h * n ≤ most_row
  pub inside : c < w
  pub room : h * n ≤ length out

-- Such rows, and room for as many cells.
pub record CellsNeeded (n w h : ℕ) (b to : List ℕ) : Type 0 where
  pub long : length b ≡ h * (w * n)
  pub short : length b ≤ most_picture
  pub row : w * n ≤ most_row
  pub column : h * n ≤ most_row
  pub room : h * (w * n) ≤ length to

-- A picture of its size, a column of it, and room for the column.
pub record ColumnNeeded (b : List ℕ) (z : Size) (c : ℕ) (out : List ℕ) : Type 0 where
  pub sized : refusal (size_rules z (length b)) ≡ 0
  pub inside : c < z.width
  pub room : z.height * pixel_bytes z.kind ≤ length out

-- A picture of its size, and room for another.
pub record ExchangeNeeded (b : List ℕ) (z : Size) (to : List ℕ) : Type 0 where
  pub sized : refusal (size_rules z (length b)) ≡ 0
  pub room : picture_bytes z ≤ length to
