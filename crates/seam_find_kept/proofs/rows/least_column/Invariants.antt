-- `seam_find_kept::rows::least_column` meets its contract. The loop's invariant: best is the first of the least before column c.
use lib.ListN.{take, drop}
use Rattle.seam_sums.proofs.Turns.{SoFar}
use Rattle.seam_find_kept.proofs.rows.least_column.Given as goal

abbrev pub invariant-loop-c : goal.invariant-loop-c
invariant-loop-c g l = SoFar (take l.width (drop 1 (g.S.Sum.held l.row))) l.c l.best
