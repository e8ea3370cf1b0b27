-- `energy::forward::pixel_steps` meets its contract. The loop's invariant: the costs of the first k pixels are stored, in each of the
-- three rows.
use Rattle.grids.proofs.Tables.{Stored}
use Rattle.energy.specs.Inner.{sample_distance}
use Rattle.energy.proofs.forward.pixel_steps.Given as goal

abbrev pub invariant-loop-k : goal.invariant-loop-k
invariant-loop-k l =
    Stored (sample_distance l.after l.before l.above l.before) l.initial.left l.k-end l.k l.left
    × Stored (sample_distance l.after l.before l.before l.before) l.initial.up l.k-end l.k l.up
    × Stored (sample_distance l.after l.before l.above l.after) l.initial.right l.k-end l.k l.right
