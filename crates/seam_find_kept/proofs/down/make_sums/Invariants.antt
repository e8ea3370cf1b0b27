-- `seam_find_kept::down::make_sums` meets its contract. The loop's invariant: the rows above row i are stored.
use Rattle.seam_find_kept.specs.Finding.{costs_in}
use Rattle.seam_find_kept.specs.Inner.Down.{RowsAbove}
use Rattle.seam_find_kept.proofs.down.make_sums.Given as goal

abbrev pub invariant-loop-i : goal.invariant-loop-i
invariant-loop-i g l =
    RowsAbove g.S.Sum.bytes g.S.Sum.most g.S.Sum.held
    (costs_in l.method.energy l.size l.width l.costs.up.now l.costs.left.now l.costs.right.now) l.size l.width l.i l.sums
