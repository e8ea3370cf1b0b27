-- `energy::kernels::samples_apart` meets its contract. The loop's invariant: the distances of the first k samples are stored.
use Rattle.grids.proofs.Tables.{Stored}
use Rattle.energy.specs.Inner.{sample_apart}
use Rattle.energy.proofs.kernels.samples_apart.Given as goal

abbrev pub invariant-loop-k : goal.invariant-loop-k
invariant-loop-k l = Stored (sample_apart l.a l.b) l.initial.out l.k-end l.k l.out
