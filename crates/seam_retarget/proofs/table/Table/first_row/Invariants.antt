-- `seam_retarget::table::Table::first_row` meets its contract. The loop's invariant: the cells of row 0 up to column j are there.
use Rattle.seam_retarget.proofs.Sweep.{FirstSoFar}
use Rattle.seam_retarget.proofs.table.Table.first_row.Given as goal

abbrev pub invariant-loop-j : goal.invariant-loop-j
invariant-loop-j l = FirstSoFar l.fn.self l.fn.columns.0 l.initial.work l.initial.totals l.j l.work l.totals
