-- `seam_retarget::table::Table::next_row` meets its contract.
use borrow.Author.Rules.{rules}
use Rattle.seam_retarget.proofs.Below.{next_step_lem, next_given}
use Rattle.seam_retarget.proofs.table.Table.next_row.Goals as goal

pub step-cost-requires : goal.step-cost-requires
step-cost-requires c =
    let a = c.args in
    let is = c.seam-seam.ensures in
    rw (is.size_is, is.axis_is, is.at_is) (next_step_lem a.self a.rows.0 a.columns.0 a.work.now a.totals.now c.requires (search rules))

pub returns : goal.returns
returns c =
    let a = c.args in
    let is = c.seam-seam.ensures in
    let step = c.step-cost in
    let row = c.rest_of_row in
    next_given a.self a.rows.0 a.columns.0 a.work.now a.totals.now c.requires (search rules)
    step.result step.new.work (rw (is.size_is, is.method_is, is.axis_is, is.at_is) at step.ensures) row.new.work row.new.totals row.ensures
