-- `seam_sums::least::first_least` meets its contract. The loop's invariant: best is the first of the least before k.
use mathlib.Core.List.{map}
use Rattle.seam_sums.proofs.Turns.{SoFar}
use Rattle.seam_sums.proofs.least.first_least.Given as goal

abbrev pub invariant-loop-k : goal.invariant-loop-k
invariant-loop-k g l = SoFar (map g.N.Number.value l.sums) l.k l.best
