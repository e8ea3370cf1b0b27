-- `seam_moves::columns::put_cell` meets its contract: after the loop all bytes are copied.
use Rattle.std.proofs.Common.{arith}
use Rattle.grids.proofs.Tables.{copied-end}
use Rattle.seam_moves.proofs.columns.put_cell.Goals as goal

pub returns : goal.returns
returns c =
    let l = c.loop-k in
    copied-end c.args.from.now c.args.out.now 0 _ l.k l.out c.requires (omega (arith, c.loop-k-test.false)) l.invariant
