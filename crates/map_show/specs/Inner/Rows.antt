-- A row with columns less or more. What private functions ask and promise; no public promise cites it.
use Rattle.std.specs.Prelude.{◌≡◌, Bool, List, ℕ, ◌+◌, ◌-◌, ◌*◌, ◌≤◌, length}
use Rattle.grids.specs.Rows.{rows_of, row_at, flat}
use Rattle.map_theory.specs.Widths.{stays, keep_row, grow_last, grow_row, row_at_width, average}

-- The pixels of a row's bytes, of ch bytes a pixel, as many as there are numbers.
abbrev pub pixels_in : ℕ → List ℕ → List ℕ → List (List ℕ)
pixels_in ch samples numbers = rows_of ch (length numbers) samples

-- The bytes of a row at width v, with t columns less, and with u columns more. `wrap` says whether the last column is joined to the
-- first.
unfoldable pub shown : ℕ → Bool → List ℕ → List ℕ → ℕ → List ℕ
shown ch wrap samples numbers v = flat (row_at_width average wrap (length numbers) v (pixels_in ch samples numbers) numbers)

unfoldable pub kept_pixels : ℕ → List ℕ → List ℕ → ℕ → List ℕ
kept_pixels ch samples numbers t = flat (keep_row (stays t) (pixels_in ch samples numbers) numbers)

unfoldable pub grown : ℕ → Bool → List ℕ → List ℕ → ℕ → List ℕ
grown ch wrap samples numbers u = flat (grow_row average wrap u (pixels_in ch samples numbers) numbers)

-- A row's bytes, and room for what is shown of it.
pub record RowNeeded (ch : ℕ) (samples numbers shown out : List ℕ) : Type 0 where
  pub whole : length samples ≡ length numbers * ch
  pub room : length shown ≤ length out

-- The bytes of the last column's pixel, and of its new pixel where there is one.
abbrev pub last_pixels : ℕ → Bool → List ℕ → ℕ → Bool → List ℕ
last_pixels ch wrap samples c new = flat (grow_last average wrap new (row_at ch 0 samples) (row_at ch (c - 1) samples) (row_at ch c samples))

pub record LastNeeded (ch : ℕ) (wrap : Bool) (samples : List ℕ) (c : ℕ) (new : Bool) (out : List ℕ) (at : ℕ) : Type 0 where
  pub inside : c * ch + ch ≤ length samples
  pub room : at + length (last_pixels ch wrap samples c new) ≤ length out
