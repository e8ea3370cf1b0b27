-- `seam_find::down::row_down` meets its contract: the row's sums are put between the fences.
use Rattle.std.proofs.Common.{◌+◌, ◌-◌, ap}
use mathlib.Core.List.{map}
use Rattle.seam_sums.proofs.Values.{values_put}
use Rattle.seam_find.specs.Inner.Down.{RowWorked}
use Rattle.seam_find.proofs.OneRow.{row-given}
use Rattle.seam_find.proofs.down.row_down.Goals as goal
use Rattle.seam_find.proofs.down.row_down.Goals.{then-has_one_cost, else-has_one_cost}

pub returns : goal.returns
returns g c =
    let a = c.args in
    let z = a.allowed.size in
    let value = g.C.Sum.Number.value in
    let worked : RowWorked g.C.Sum.Number.most (g.C.Costing.front z) z (g.C.Costing.costs z a.method) a.i a.space.now (map value a.above.now) c.if-has_one_cost.space (map value c.if-has_one_cost.next) =
    elim c.if-has_one_cost.branch [
      | then-has_one_cost w ↦ rw (w.space-is, w.next-is) w.row_by_one.ensures
      | else-has_one_cost w ↦ rw (w.space-is, w.next-is) w.row_by_steps.ensures
    ]
    in
    rw (values_put value 1 (z.width + 1 - 1) a.above.now c.copy_from_slice.new.self)
    (row-given c.requires worked (ap (map value) c.copy_from_slice.ensures.after))
