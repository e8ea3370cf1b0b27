-- `energy::kernels::widen` meets its contract: after the loop all numbers are copied.
use Rattle.std.proofs.Common.{arith}
use Rattle.grids.proofs.Tables.{copied-end}
use Rattle.energy.proofs.kernels.widen.Goals as goal

pub returns : goal.returns
returns c =
    let l = c.loop-c in
    copied-end c.args.from.now c.args.out.now 0 _ l.c l.out c.requires (omega (arith, c.loop-c-test.false)) l.invariant
