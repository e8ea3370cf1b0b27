-- `energy::kernels::blocks` meets its contract: each turn stores one block, which begins where all before it are stored and ends
-- within the row.
use Rattle.std.proofs.Common.{◌+◌, ◌≤◌, length, arith}
use Rattle.energy.specs.Inner.{two_distances}
use Rattle.energy.proofs.Samples.{stored_block, block_distances}
use Rattle.energy.proofs.kernels.blocks.Goals as goal

pub loop-done-preserved : goal.loop-done-preserved
loop-done-preserved g c =
    let a = c.args in
    let l = c.loop-done in
    let n = g.row.N in
    let width = length a.out.now in
    let at = c.min-at.result in
    let inside : at + g.row.PIXELS ≤ width = omega (arith, c.min-at.ensures, c.requires.narrow, l.invariant.within) in
    stored_block (two_distances n a.a.now a.b.now a.c.now a.d.now) a.out.now width l.done at g.row.PIXELS l.out c.block.new.out
    (omega (arith, c.min-at.ensures)) (omega (arith, c.min-at.ensures, l.invariant.within)) inside
    (block_distances n a.a.now a.b.now a.c.now a.d.now at g.row.PIXELS g.row.SAMPLES width c.block.ensures c.requires.block.samples_are inside c.requires.rows)
    l.invariant
