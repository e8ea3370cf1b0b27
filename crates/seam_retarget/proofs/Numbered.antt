-- The table of cells over plain numbers: what the proofs count in.
use mathlib.Core.Path.{◌≡◌, refl, ap, ap₂}
use Prim.Native.Nat.{ℕ, zero, suc}
use Rattle.pictures.specs.declared.sizes.Size.{Size}
use Rattle.pictures.specs.Pictures.{Picture}
use Rattle.energy.specs.declared.methods.Method.{Method}
use Rattle.seam_rules.specs.declared.answers.Axis.TheVariants.{Vertical, Horizontal}
use Rattle.seam_rules.specs.declared.answers.Rows.{Rows}
use Rattle.seam_rules.specs.declared.answers.Columns.{Columns}
use Rattle.seam_rules.specs.Counts.{smaller, left_size}
use Rattle.seam_retarget.specs.Cells.{Cell, by_seam, chosen, as_rows, as_columns, cell_after, many_rows, many_columns, cell}

unfoldable pub cell_at : Method → Size → Picture → ℕ → ℕ → Cell
cell_at how z p zero zero = record { picture = p; total = 0 }
cell_at how z p zero (suc c) = by_seam how Vertical (smaller z 0 c) (cell_at how z p zero c)
cell_at how z p (suc r) zero = by_seam how Horizontal (smaller z r 0) (cell_at how z p r zero)
cell_at how z p (suc r) (suc c) =
    chosen
    (by_seam how Vertical (smaller z (suc r) c) (cell_at how z p (suc r) c))
    (by_seam how Horizontal (smaller z r (suc c)) (cell_at how z p r (suc c)))

-- n rows removed are n rows, and columns alike.
rows_in_lem : (r : ℕ) → (as_rows (many_rows r)).0 ≡ r
rows_in_lem zero = refl
rows_in_lem (suc r) = ap suc (rows_in_lem r)

columns_in : (c : ℕ) → (as_columns (many_columns c)).0 ≡ c
columns_in zero = refl
columns_in (suc c) = ap suc (columns_in c)

size_in : (z : Size) (r c : ℕ) → left_size z (as_rows (many_rows r)) (as_columns (many_columns c)) ≡ smaller z r c
size_in z r c = ap₂ (smaller z) (rows_in_lem r) (columns_in c)

after-numbers : (how : Method) (z : Size) (p : Picture) (r c : ℕ) → cell_after how z p (many_rows r) (many_columns c) ≡ cell_at how z p r c
unfolding cell_after cell_at
after-numbers how z p zero zero = refl
after-numbers how z p zero (suc c) = ap₂ (by_seam how Vertical) (size_in z 0 c) (after-numbers how z p zero c)
after-numbers how z p (suc r) zero = ap₂ (by_seam how Horizontal) (size_in z r 0) (after-numbers how z p r zero)
after-numbers how z p (suc r) (suc c) =
    ap₂ chosen
    (ap₂ (by_seam how Vertical) (size_in z (suc r) c) (after-numbers how z p (suc r) c))
    (ap₂ (by_seam how Horizontal) (size_in z r (suc c)) (after-numbers how z p r (suc c)))

-- The cell of two counts is that of their numbers.
pub cell-numbers : (how : Method) (z : Size) (p : Picture) (rows : Rows) (columns : Columns) → cell how z p rows columns ≡ cell_at how z p rows.0 columns.0
cell-numbers how z p rows columns = after-numbers how z p rows.0 columns.0
