-- `seam_moves::columns::put_cell` meets its contract. The loop's invariant: the first k bytes are stored.
use Rattle.grids.proofs.Tables.{Copied}
use Rattle.seam_moves.proofs.columns.put_cell.Given as goal

abbrev pub invariant-loop-k : goal.invariant-loop-k
invariant-loop-k l = Copied l.from l.initial.out 0 l.k-end l.k l.out
