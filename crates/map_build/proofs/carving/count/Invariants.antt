-- `map_build::carving::count` meets its contract. The invariant: the first c places are counted.
use Rattle.grids.proofs.Tables.{Stored}
use lib.ListN.{length}
use Rattle.map_build.proofs.carving.count.Given as goal

abbrev pub invariant-loop-c : goal.invariant-loop-c
invariant-loop-c l = Stored (λ c. c) l.initial.out (length l.initial.out) l.c l.out
