-- `map_show::pixels::copy_pixel` meets its contract: each turn stores one sample.
use mathlib.Core.Path.{sym}
use native.Mathlib.Omega.{arith}
use lib.ListN.{length}
use Rattle.grids.proofs.Tables.{copied_start, copied_turn, copied-end}
use Rattle.map_show.proofs.pixels.copy_pixel.Goals as goal

pub loop-i-init : goal.loop-i-init
loop-i-init c = let a = c.args in copied_start a.pixel.now a.out.now 0

pub loop-i-preserved : goal.loop-i-preserved
loop-i-preserved c =
    let a = c.args in
    copied_turn a.pixel.now a.out.now 0 (length a.out.now) c.loop-i.i c.loop-i.out c.loop-i-test.true c.loop-i.invariant

pub returns : goal.returns
returns c =
    let a = c.args in
    copied-end a.pixel.now a.out.now 0 (length a.out.now) c.loop-i.i c.loop-i.out (sym c.requires) (omega arith) c.loop-i.invariant
