-- `seam_retarget::table::Table::rest_of_row` meets its contract: each turn of the loop is one more cell.
use borrow.Author.Rules.{rules}
use Rattle.seam_retarget.proofs.Below.{rest_start, rest-turn}
use Rattle.seam_retarget.proofs.table.Table.rest_of_row.Goals as goal

pub loop-j-init : goal.loop-j-init
loop-j-init c =
    let a = c.args in
    rest_start a.self a.rows.0 a.columns.0 a.work.now a.totals.now c.requires (search rules)

pub loop-j-preserved : goal.loop-j-preserved
loop-j-preserved c =
    let a = c.args in
    let head = c.loop-j in
    let next = c.next_cell in
    rest-turn a.self a.rows.0 a.columns.0 a.work.now a.totals.now c.requires (search rules) head.j head.work head.totals c.loop-j-test.true head.invariant
    next.result next.new.work next.ensures
