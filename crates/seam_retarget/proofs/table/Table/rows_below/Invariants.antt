-- `seam_retarget::table::Table::rows_below` meets its contract. The loop's invariant: row i stands in the slots.
use Prim.Native.Nat.{◌≤◌}
use Rattle.seam_rules.specs.Counts.{row_count}
use Rattle.seam_retarget.specs.Inner.Table.{held, table_row, RowGiven}
use Rattle.seam_retarget.proofs.table.Table.rows_below.Given as goal

abbrev pub invariant-loop-i : goal.invariant-loop-i
invariant-loop-i l =
    (l.i ≤ l.fn.rows.0)
    × RowGiven l.fn.self (row_count l.i) l.fn.columns
    (table_row l.fn.self.method l.fn.self.size.size (held l.fn.self (row_count 0) l.initial.work l.initial.totals) (row_count l.i)) l.initial.work l.work l.totals
