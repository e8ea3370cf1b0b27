-- `energy::kernels::short` meets its contract. The loop's invariant: what the first k pixels have is stored.
use Rattle.grids.proofs.Tables.{Stored}
use Rattle.energy.specs.Inner.{two_distances}
use Rattle.energy.proofs.kernels.short.Given as goal

abbrev pub invariant-loop-k : goal.invariant-loop-k
invariant-loop-k g l = Stored (two_distances g.row.N l.a l.b l.c l.d) l.initial.out l.k-end l.k l.out
