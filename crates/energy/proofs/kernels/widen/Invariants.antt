-- `energy::kernels::widen` meets its contract. The loop's invariant: the first c numbers are stored.
use Rattle.grids.proofs.Tables.{Copied}
use Rattle.energy.proofs.kernels.widen.Given as goal

abbrev pub invariant-loop-c : goal.invariant-loop-c
invariant-loop-c l = Copied l.from l.initial.out 0 l.c-end l.c l.out
