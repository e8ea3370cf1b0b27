-- `map_show::pixels::put_means` meets its contract: each turn stores the mean of two samples.
use mathlib.Core.Path.{refl, ◌∙◌}
use native.Mathlib.Omega.{arith}
use lib.ListN.{length}
use Rattle.grids.proofs.Tables.{stored_start, stored_turn, stored_end}
use Rattle.map_show.proofs.Samples.{mean_at, means-all}
use Rattle.map_show.proofs.pixels.put_means.Goals as goal

pub loop-i-init : goal.loop-i-init
loop-i-init c = let a = c.args in stored_start (mean_at a.a.now a.b.now) a.out.now (length a.out.now) refl

pub loop-i-preserved : goal.loop-i-preserved
loop-i-preserved c =
    let a = c.args in
    stored_turn (mean_at a.a.now a.b.now) a.out.now (length a.out.now) c.loop-i.i c.loop-i.out c.mean.result 0 c.loop-i-test.true c.mean.ensures c.loop-i.invariant

pub returns : goal.returns
returns c =
    let a = c.args in
    stored_end (mean_at a.a.now a.b.now) a.out.now (length a.out.now) c.loop-i.i c.loop-i.out (omega arith) c.loop-i.invariant
    ∙ means-all a.a.now a.b.now a.out.now c.requires
