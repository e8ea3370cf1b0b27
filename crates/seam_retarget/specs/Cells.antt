-- "Retargeting": the table of cells, one for each count of rows and count of columns removed.
use Rattle.std.specs.Prelude.{cond, ℕ, zero, suc, ◌+◌, leb}
use Rattle.pictures.specs.declared.sizes.Size.{Size}
use Rattle.pictures.specs.Pictures.{Picture}
use Rattle.energy.specs.declared.methods.Method.{Method}
use Rattle.seam_rules.specs.declared.answers.Axis.{Axis}
use Rattle.seam_rules.specs.declared.answers.Axis.TheVariants.{Vertical, Horizontal}
use Rattle.seam_rules.specs.declared.answers.Rows.{Rows}
use Rattle.seam_rules.specs.declared.answers.Columns.{Columns}
use Rattle.seam_rules.specs.Counts.{row_count, column_count, left_size}
use Rattle.seam_cut.specs.Axes.{seam_along, cost_along}
use Rattle.seam_turn.specs.Axes.{cut_along}

-- "The answer is the cell's picture and total."
pub record Cell : Type 0 where
  pub picture : Picture
  pub total : ℕ

-- From a cell whose picture has this size, by its seam along the axis as a method finds it: "the total growing by that seam's
-- cost in the picture before the cut".
unfoldable pub by_seam : Method → Axis → Size → Cell → Cell
by_seam how x z from = record {
  picture = cut_along x z (seam_along how x z from.picture) from.picture;
  total = from.total + cost_along how x z from.picture;
}

-- "The smaller total is chosen; on a tie the vertical cut."
unfoldable pub chosen : Cell → Cell → Cell
chosen vertical horizontal = cond (leb vertical.total horizontal.total) vertical horizontal

-- "A count of rows and a count of columns are never given one for the other": rows removed, none or one after others, are of
-- one type, columns removed of another, so that the table can't be written with one for the other.
pub data RowsRemoved : Type 0 where
  no_rows : RowsRemoved
  row_after : RowsRemoved → RowsRemoved

pub data ColumnsRemoved : Type 0 where
  no_columns : ColumnsRemoved
  column_after : ColumnsRemoved → ColumnsRemoved

-- How many they are.
abbrev pub as_rows : RowsRemoved → Rows
as_rows no_rows = row_count 0
as_rows (row_after r) = row_count (suc (as_rows r).0)

abbrev pub as_columns : ColumnsRemoved → Columns
as_columns no_columns = column_count 0
as_columns (column_after c) = column_count (suc (as_columns c).0)

-- "Cell (0,0) is the picture with total 0. Cell (r,c) comes either from (r-1,c) by its horizontal seam or from (r,c-1) by its
-- vertical seam." On the table's edge there is one way only.
unfoldable pub cell_after : Method → Size → Picture → RowsRemoved → ColumnsRemoved → Cell
cell_after how z p no_rows no_columns = record { picture = p; total = 0 }
cell_after how z p no_rows (column_after c) = by_seam how Vertical (left_size z (as_rows no_rows) (as_columns c)) (cell_after how z p no_rows c)
cell_after how z p (row_after r) no_columns = by_seam how Horizontal (left_size z (as_rows r) (as_columns no_columns)) (cell_after how z p r no_columns)
cell_after how z p (row_after r) (column_after c) =
    chosen
    (by_seam how Vertical (left_size z (as_rows (row_after r)) (as_columns c)) (cell_after how z p (row_after r) c))
    (by_seam how Horizontal (left_size z (as_rows r) (as_columns (column_after c))) (cell_after how z p r (column_after c)))

-- n rows removed, n columns removed, and the cell of two counts.
abbrev pub many_rows : ℕ → RowsRemoved
many_rows zero = no_rows
many_rows (suc n) = row_after (many_rows n)

abbrev pub many_columns : ℕ → ColumnsRemoved
many_columns zero = no_columns
many_columns (suc n) = column_after (many_columns n)

abbrev pub remove_rows : Rows → RowsRemoved
remove_rows rows = many_rows rows.0

abbrev pub remove_columns : Columns → ColumnsRemoved
remove_columns columns = many_columns columns.0

abbrev pub cell : Method → Size → Picture → Rows → Columns → Cell
cell how z p rows columns = cell_after how z p (remove_rows rows) (remove_columns columns)
