-- One cell of the table, in its slot of the work space. What private functions ask and promise; no public promise cites it.
use Rattle.std.specs.Prelude.{◌≡◌, List, ℕ, ◌+◌, ◌*◌, ◌≤◌, ◌<◌, length}
use Rattle.energy.specs.Bounds.{most_cost}
use Rattle.seam_moves.specs.Between.{part_at}
use Rattle.seam_rules.specs.declared.answers.Axis.{Axis}
use Rattle.seam_rules.specs.declared.answers.Axis.TheVariants.{Vertical, Horizontal}
use Rattle.seam_retarget.specs.declared.seams.Seam.{Seam}
use Rattle.seam_retarget.specs.declared.table.Table.{Table}
use Rattle.seam_retarget.specs.Cells.{by_seam, chosen}
use Rattle.seam_rules.specs.declared.answers.Rows.{Rows}
use Rattle.seam_rules.specs.declared.answers.Columns.{Columns}
use Rattle.seam_rules.specs.Counts.{left_size, largest_count}
use Rattle.seam_retarget.specs.Inner.Seams.{picture_at}

-- The work space has 65 slots of one picture each, slot j at j pictures; after them stand two places for work of two
-- pictures each, for a vertical seam at 65 pictures and for a horizontal one at 67.
abbrev pub slots : ℕ
slots = 65

abbrev pub places : ℕ
places = 69

-- The slot of a cell, by its columns.
abbrev pub slot_at : ℕ → Columns → ℕ
slot_at whole columns = columns.0 * whole

-- Where the picture is turned for a seam along an axis.
abbrev pub place_of : Axis → ℕ
place_of Vertical = 65
place_of Horizontal = 67

-- Room for the slots and the work.
pub record SpaceNeeded (tab : Table) (work : ℕ) : Type 0 where
  pub room : places * tab.whole ≤ work

-- The seam along the axis of the cell with these rows and columns removed.
pub record SeamOf (tab : Table) (rows : Rows) (columns : Columns) (x : Axis) (seam : Seam) : Type 0 where
  pub size_is : seam.size.size ≡ left_size tab.size.size rows columns
  pub axis_is : seam.axis ≡ x
  pub method_is : seam.method ≡ tab.method
  pub at_is : seam.at ≡ place_of x * tab.whole

-- A row more, and a column more.
abbrev pub row_more : Rows → Rows
row_more rows = record { 0 = rows.0 + 1 }

abbrev pub column_more : Columns → Columns
column_more columns = record { 0 = columns.0 + 1 }

-- The cell with a row and a column more removed than `rows` and `columns`, given the totals of the cell above it and of the
-- cell to its left, neither of them large.
pub record CellNeeded (tab : Table) (rows : Rows) (columns : Columns) (above left work : ℕ) : Type 0 where
  pub space : SpaceNeeded tab work
  pub rows_left : rows.0 + 1 < tab.size.size.height
  pub columns_left : columns.0 + 1 < tab.size.size.width
  pub column : columns.0 + 1 < slots
  pub above_small : above ≤ 2 * largest_count * most_cost
  pub left_small : left ≤ 2 * largest_count * most_cost

-- The cell in its slot, its total, and every other slot as it was.
pub record CellGiven (tab : Table) (rows : Rows) (columns : Columns) (above left : ℕ) (work : List ℕ) (total : ℕ) (work' : List ℕ) : Type 0 where
  pub cell_is :
      record { picture = picture_at (left_size tab.size.size (row_more rows) (column_more columns)) (slot_at tab.whole (column_more columns)) work'; total = total }
      ≡ chosen
      (by_seam tab.method Vertical (left_size tab.size.size (row_more rows) columns) (record { picture = picture_at (left_size tab.size.size (row_more rows) columns) (slot_at tab.whole columns) work; total = left }))
      (by_seam tab.method Horizontal (left_size tab.size.size rows (column_more columns)) (record { picture = picture_at (left_size tab.size.size rows (column_more columns)) (slot_at tab.whole (column_more columns)) work; total = above }))
  pub small : total ≤ above + most_cost
  pub long : length work' ≡ length work
  pub others : (k : ℕ) → k < slots → (k ≡ (column_more columns).0 → ⊥) → part_at (k * tab.whole) tab.whole work' ≡ part_at (k * tab.whole) tab.whole work
