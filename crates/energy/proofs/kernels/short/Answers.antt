-- `energy::kernels::short` meets its contract: each turn stores what one pixel has.
use Rattle.std.proofs.Common.{◌+◌, ap₂, ◌∙◌}
use Rattle.grids.proofs.Tables.{stored_turn}
use Rattle.energy.specs.Energy.{difference}
use Rattle.energy.specs.Inner.{two_distances}
use Rattle.energy.proofs.kernels.short.Goals as goal

pub loop-k-preserved : goal.loop-k-preserved
loop-k-preserved g c =
    let a = c.args in
    let l = c.loop-k in
    stored_turn (two_distances g.row.N a.a.now a.b.now a.c.now a.d.now) a.out.now _ l.k l.out _ 0 c.loop-k-test.true
    (ap₂ ◌+◌ (c.difference-first.ensures.0 ∙ ap₂ difference c.pixel_at.ensures c.pixel_at-in-loop-k.ensures)
    (c.difference-second.ensures.0 ∙ ap₂ difference c.pixel_at-in-loop-k-2.ensures c.pixel_at-in-loop-k-3.ensures)) l.invariant
