-- The rows of the table. What private functions ask and promise; no public promise cites it.
use Rattle.std.specs.Prelude.{◌≡◌, List, ℕ, zero, suc, ◌+◌, ◌*◌, ◌≤◌, ◌<◌, length, get_or}
use Rattle.pictures.specs.declared.sizes.Size.{Size}
use Rattle.energy.specs.declared.methods.Method.{Method}
use Rattle.energy.specs.Bounds.{most_cost}
use Rattle.seam_rules.specs.declared.answers.Axis.TheVariants.{Vertical, Horizontal}
use Rattle.seam_retarget.specs.declared.table.Table.{Table}
use Rattle.seam_retarget.specs.Cells.{Cell, by_seam, chosen}
use Rattle.seam_rules.specs.declared.answers.Rows.{Rows}
use Rattle.seam_rules.specs.declared.answers.Columns.{Columns}
use Rattle.seam_rules.specs.Counts.{row_count, column_count, left_size}
use Rattle.seam_retarget.specs.Inner.Seams.{picture_at}
use Rattle.seam_retarget.specs.Inner.Cells.{slots, slot_at, SpaceNeeded, row_more}

-- The cell of this row of the table that stands in slot j, with its total: j columns are removed from it.
abbrev pub held : Table → Rows → List ℕ → List ℕ → ℕ → Cell
held tab rows work totals j = record { picture = picture_at (left_size tab.size.size rows (column_count j)) (slot_at tab.whole (column_count j)) work; total = get_or totals j 0 }

-- The first row of cells from its first; a later row from its first and the row above it, and from the row above alone; and
-- a row from the first row.
unfoldable pub first_row : Method → Size → Cell → ℕ → Cell
first_row how z first zero = first
first_row how z first (suc c) = by_seam how Vertical (left_size z (row_count 0) (column_count c)) (first_row how z first c)

unfoldable pub along_row : Method → Size → Rows → Cell → (ℕ → Cell) → ℕ → Cell
along_row how z rows first above zero = first
along_row how z rows first above (suc c) =
    chosen
    (by_seam how Vertical (left_size z (row_count (suc rows.0)) (column_count c)) (along_row how z rows first above c))
    (by_seam how Horizontal (left_size z rows (column_count (suc c))) (above (suc c)))

abbrev pub next_row : Method → Size → Rows → (ℕ → Cell) → ℕ → Cell
next_row how z rows above = along_row how z rows (by_seam how Horizontal (left_size z rows (column_count 0)) (above 0)) above

unfoldable pub row_below : Method → Size → (ℕ → Cell) → ℕ → ℕ → Cell
row_below how z first zero = first
row_below how z first (suc r) = next_row how z (row_count r) (row_below how z first r)

abbrev pub table_row : Method → Size → (ℕ → Cell) → Rows → ℕ → Cell
table_row how z first rows = row_below how z first rows.0

-- The totals of row r are not over this: a first row of 64 seams, and r seams down.
abbrev pub largest_total : ℕ → ℕ
largest_total r = (64 + r) * most_cost

-- Columns up to this count to be removed from this row of the table.
pub record RowNeeded (tab : Table) (rows : Rows) (columns : Columns) (work totals : List ℕ) : Type 0 where
  pub space : SpaceNeeded tab (length work)
  pub rows_left : rows.0 < tab.size.size.height
  pub row : rows.0 < slots
  pub columns_left : columns.0 < tab.size.size.width
  pub column : columns.0 < slots

-- A row up to a count of columns, with its totals.
pub record RowGiven (tab : Table) (rows : Rows) (columns : Columns) (cells : ℕ → Cell) (work work' totals' : List ℕ) : Type 0 where
  pub cells_are : (j : ℕ) → j ≤ columns.0 → held tab rows work' totals' j ≡ cells j
  pub small : (j : ℕ) → get_or totals' j 0 ≤ largest_total rows.0
  pub long : length work' ≡ length work

-- For the first row: no totals yet.
pub record FirstRowNeeded (tab : Table) (columns : Columns) (work totals : List ℕ) : Type 0 where
  pub fits : RowNeeded tab (row_count 0) columns work totals
  pub none : (j : ℕ) → get_or totals j 0 ≡ 0

-- For the rest of the row below row `rows`: the totals of that row, but in the first column the one of the row below it.
pub record RestOfRowNeeded (tab : Table) (rows : Rows) (columns : Columns) (work totals : List ℕ) : Type 0 where
  pub fits : RowNeeded tab (row_more rows) columns work totals
  pub first_small : get_or totals 0 0 ≤ largest_total (rows.0 + 1)
  pub others_small : (j : ℕ) → 0 < j → get_or totals j 0 ≤ largest_total rows.0

-- For the whole row below row `rows`: the totals of that row.
pub record NextRowNeeded (tab : Table) (rows : Rows) (columns : Columns) (work totals : List ℕ) : Type 0 where
  pub fits : RowNeeded tab (row_more rows) columns work totals
  pub small : (j : ℕ) → get_or totals j 0 ≤ largest_total rows.0

-- For row `rows` from row 0: the totals of row 0.
pub record RowsBelowNeeded (tab : Table) (rows : Rows) (columns : Columns) (work totals : List ℕ) : Type 0 where
  pub fits : RowNeeded tab rows columns work totals
  pub small : (j : ℕ) → get_or totals j 0 ≤ largest_total 0
