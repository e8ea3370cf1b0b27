-- `seam_find::trace::trace_back` meets its contract. The loop's invariant: there is a path, its columns in the rows below i are
-- stored, and c is its column in row i. The measure is i.
use Rattle.std.proofs.Common.{◌-◌, length}
use Rattle.seam_theory.specs.Sums.{columns_to}
use Rattle.seam_find.proofs.Loops.{Traceable, Back}
use Rattle.seam_find.proofs.trace.trace_back.Given as goal

abbrev pub invariant-loop-i : goal.invariant-loop-i
invariant-loop-i l =
    Traceable (length l.ways) l.width l.height l.column (length l.initial.seam)
    × Back l.ways l.initial.seam (columns_to l.ways l.width (l.height - 1) l.column) l.width l.height l.i l.c l.seam
