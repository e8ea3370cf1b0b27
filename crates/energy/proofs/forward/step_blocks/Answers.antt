-- `energy::forward::step_blocks` meets its contract: each turn stores one block in each of the three rows, which begins where all
-- before it are stored and ends within the row.
use Rattle.std.proofs.Common.{◌+◌, ◌≤◌, length, arith}
use Rattle.energy.specs.Inner.{two_distances}
use Rattle.energy.proofs.Samples.{stored_block, block_distances, left_rows, up_rows, right_rows}
use Rattle.energy.proofs.forward.step_blocks.Goals as goal

pub loop-done-preserved : goal.loop-done-preserved
loop-done-preserved g c =
    let a = c.args in
    let l = c.loop-done in
    let n = g.row.N in
    let size = g.row.PIXELS in
    let samples = g.row.SAMPLES in
    let width = length a.left.now in
    let at = c.min-at.result in
    let new = c.step_block.new in
    let many = c.requires.block.samples_are in
    let rows = c.requires.rows in
    let before = a.before.now in
    let after = a.after.now in
    let above = a.above.now in
    let from : at ≤ l.done = omega (arith, c.min-at.ensures) in
    let to : l.done ≤ at + size = omega (arith, c.min-at.ensures, l.invariant.0.within) in
    let inside : at + size ≤ width = omega (arith, c.min-at.ensures, c.requires.narrow, l.invariant.0.within) in (
      stored_block (two_distances n after before above before) a.left.now width l.done at size l.left new.left from to inside
          (block_distances n after before above before at size samples width c.step_block.ensures.left many inside (left_rows rows)) l.invariant.0,
      stored_block (two_distances n after before before before) a.up.now width l.done at size l.up new.up from to inside
          (block_distances n after before before before at size samples width c.step_block.ensures.up many inside (up_rows rows)) l.invariant.1,
      stored_block (two_distances n after before above after) a.right.now width l.done at size l.right new.right from to inside
          (block_distances n after before above after at size samples width c.step_block.ensures.right many inside (right_rows rows)) l.invariant.2,
    )
