-- `energy::kernels::samples_apart` meets its contract: each turn stores the distance of one sample.
use Rattle.grids.proofs.Tables.{stored_turn}
use Rattle.energy.specs.Inner.{sample_apart}
use Rattle.energy.proofs.kernels.samples_apart.Goals as goal

pub loop-k-preserved : goal.loop-k-preserved
loop-k-preserved c =
    let a = c.args in
    let l = c.loop-k in
    stored_turn (sample_apart a.a.now a.b.now) a.out.now _ l.k l.out _ 0 c.loop-k-test.true c.abs_diff.ensures l.invariant
