-- `seam_find_marked::weights::weigh` meets its contract.
use mathlib.Core.List.{map}
use Rattle.std.proofs.lemmas.List.{map-set}
use Rattle.grids.proofs.Tables.{stored_turn}
use Rattle.seam_find_marked.specs.Inner.{weight_in}
use Rattle.seam_find_marked.proofs.weights.weigh.Goals as goal

pub loop-c-preserved : goal.loop-c-preserved
loop-c-preserved c =
    let l = c.loop-c in
    let a = c.args in
    rw (map-set (λ w. w.0) l.cost l.c c.pixel_weight.result)
    (stored_turn (weight_in a.costs.now a.marks.now) _ _ l.c (map (λ w. w.0) l.cost) _ 0 c.loop-c-test.true
    (c.pixel_weight.ensures (c.requires.cheap l.c)) l.invariant)
