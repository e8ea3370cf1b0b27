-- `seam_retarget::table::Table::rest_of_row` meets its contract. The loop's invariant: the cells up to column j are there, and after
-- them those of the row above.
use Rattle.seam_retarget.proofs.Below.{RestSoFar}
use Rattle.seam_retarget.proofs.table.Table.rest_of_row.Given as goal

abbrev pub invariant-loop-j : goal.invariant-loop-j
invariant-loop-j l = RestSoFar l.fn.self l.fn.rows.0 l.fn.columns.0 l.initial.work l.initial.totals l.j l.work l.totals
