-- `seam_retarget::table::Table::rows_below` meets its contract: each turn of the loop is one more row.
use native.Mathlib.Omega.{arith}
use Rattle.seam_retarget.proofs.Below.{below_start, below_turn}
use Rattle.seam_retarget.proofs.table.Table.rows_below.Goals as goal

pub loop-i-init : goal.loop-i-init
loop-i-init c =
    let a = c.args in
    (omega arith, below_start a.self a.columns.0 a.work.now a.totals.now c.requires.small)

pub loop-i-preserved : goal.loop-i-preserved
loop-i-preserved c =
    let a = c.args in
    let head = c.loop-i in
    let next = c.next_row in (
      omega (arith, c.loop-i-test.true),
      below_turn a.self a.columns.0 a.work.now a.totals.now head.i head.work head.totals next.new.work next.new.totals head.invariant.1 next.ensures,
    )
