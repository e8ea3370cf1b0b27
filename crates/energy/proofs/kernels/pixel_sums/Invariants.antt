-- `energy::kernels::pixel_sums` meets its contract. The loop's invariant: the sums of the first c pixels are stored.
use Rattle.grids.proofs.Tables.{Stored}
use Rattle.energy.specs.Inner.{two_sums}
use Rattle.energy.proofs.kernels.pixel_sums.Given as goal

abbrev pub invariant-loop-c : goal.invariant-loop-c
invariant-loop-c g l = Stored (two_sums g.row.N l.first l.second) l.initial.out l.c-end l.c l.out
