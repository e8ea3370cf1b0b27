-- `energy::kernels::blocks` meets its contract. The loop's invariant: what the first `done` pixels have is stored. The measure is how
-- many are left.
use Rattle.std.proofs.Common.{length, ◌-◌}
use Rattle.grids.proofs.Tables.{Stored}
use Rattle.energy.specs.Inner.{two_distances}
use Rattle.energy.proofs.kernels.blocks.Given as goal

abbrev pub invariant-loop-done : goal.invariant-loop-done
invariant-loop-done g l = Stored (two_distances g.row.N l.a l.b l.c l.d) l.initial.out (length l.initial.out) l.done l.out

abbrev pub decreases-loop-done : goal.decreases-loop-done
decreases-loop-done g l = length l.initial.out - l.done
