-- `seam_find::down::down` meets its contract. The loop's invariant is `BeforeRow`: before row i, which is not the first, the
-- ways between the rows above it stand after what the costs are read from, and the fenced sums are those of row i - 1.
use mathlib.Core.List.{map}
use lib.ListN.{length}
use Rattle.seam_find.proofs.BeforeRow.{BeforeRow}
use Rattle.seam_find.proofs.down.down.Given as goal

abbrev pub invariant-loop-i : goal.invariant-loop-i
invariant-loop-i g l =
    BeforeRow g.C.Sum.Number.most g.C.Costing.fence (g.C.Costing.front l.allowed.size) l.allowed.size (g.C.Costing.costs l.allowed.size l.method)
    l.initial.space (length l.initial.energies) (length l.initial.steps) (length l.initial.next)
    l.i l.space (map g.C.Sum.Number.value l.above) (length l.energies) (length l.steps) (length l.next)
