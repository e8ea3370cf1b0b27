-- `energy::forward::pixel_steps` meets its contract: each turn stores the three costs of one pixel.
use Rattle.std.proofs.Common.{◌+◌, ap₂, arith}
use Rattle.grids.proofs.Tables.{stored_turn}
use Rattle.energy.specs.Inner.{sample_distance}
use Rattle.energy.proofs.forward.pixel_steps.Goals as goal

pub loop-k-preserved : goal.loop-k-preserved
loop-k-preserved c =
    let a = c.args in
    let l = c.loop-k in
    let distance = sample_distance a.after.now a.before.now in (
      stored_turn (distance a.above.now a.before.now) a.left.now _ l.k l.left _ 0 c.loop-k-test.true (ap₂ ◌+◌ c.abs_diff-across.ensures c.abs_diff.ensures) l.invariant.0,
      stored_turn (distance a.before.now a.before.now) a.up.now _ l.k l.up _ 0 c.loop-k-test.true (omega (arith, c.abs_diff-across.ensures)) l.invariant.1,
      stored_turn (distance a.above.now a.after.now) a.right.now _ l.k l.right _ 0 c.loop-k-test.true (ap₂ ◌+◌ c.abs_diff-across.ensures c.abs_diff-in-loop-k.ensures) l.invariant.2,
    )
