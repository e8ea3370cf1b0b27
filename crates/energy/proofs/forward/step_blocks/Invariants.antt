-- `energy::forward::step_blocks` meets its contract. The loop's invariant: the costs of the first `done` pixels are stored, in each of
-- the three rows. The measure is how many are left.
use Rattle.std.proofs.Common.{length, ◌-◌}
use Rattle.grids.proofs.Tables.{Stored}
use Rattle.energy.specs.Inner.{two_distances}
use Rattle.energy.proofs.forward.step_blocks.Given as goal

abbrev pub invariant-loop-done : goal.invariant-loop-done
invariant-loop-done g l =
    Stored (two_distances g.row.N l.after l.before l.above l.before) l.initial.left (length l.initial.left) l.done l.left
    × Stored (two_distances g.row.N l.after l.before l.before l.before) l.initial.up (length l.initial.left) l.done l.up
    × Stored (two_distances g.row.N l.after l.before l.above l.after) l.initial.right (length l.initial.left) l.done l.right

abbrev pub decreases-loop-done : goal.decreases-loop-done
decreases-loop-done g l = length l.initial.left - l.done
