-- `seam_find_marked::weights::weigh` meets its contract. The loop's invariant: the weights of the first c columns stand in
-- `cost`, the rest of it is as it was.
use mathlib.Core.List.{map}
use Rattle.grids.proofs.Tables.{Stored}
use Rattle.seam_find_marked.specs.Inner.{weight_in}
use Rattle.seam_find_marked.proofs.weights.weigh.Given as goal

abbrev pub invariant-loop-c : goal.invariant-loop-c
invariant-loop-c l = Stored (weight_in l.costs l.marks) (map (λ w. w.0) l.initial.cost) l.c-end l.c (map (λ w. w.0) l.cost)
