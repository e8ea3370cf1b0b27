-- `seam_retarget::table::Table::first_row` meets its contract: each turn of the loop is a step along the row.
use borrow.Author.Rules.{rules}
use Rattle.seam_retarget.proofs.Sweep.{first_start, first_step, first-turn}
use Rattle.seam_retarget.proofs.table.Table.first_row.Goals as goal

pub loop-j-init : goal.loop-j-init
loop-j-init c =
    let a = c.args in
    first_start a.self a.columns.0 a.work.now a.totals.now c.requires (search rules)

pub step-cost-requires : goal.step-cost-requires
step-cost-requires c =
    let a = c.args in
    let head = c.loop-j in
    let is = c.seam-seam.ensures in
    rw (is.size_is, is.axis_is, is.at_is)
    (first_step a.self a.columns.0 a.work.now a.totals.now c.requires (search rules) head.j head.work head.totals c.loop-j-test.true head.invariant)

pub loop-j-preserved : goal.loop-j-preserved
loop-j-preserved c =
    let a = c.args in
    let head = c.loop-j in
    let is = c.seam-seam.ensures in
    let step = c.step-cost in
    first-turn a.self a.columns.0 a.work.now a.totals.now c.requires (search rules) head.j head.work head.totals c.loop-j-test.true head.invariant
    step.result step.new.work (rw (is.size_is, is.method_is, is.axis_is, is.at_is) at step.ensures)
