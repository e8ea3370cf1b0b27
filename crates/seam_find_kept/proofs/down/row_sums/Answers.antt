-- `seam_find_kept::down::row_sums` meets its contract: what is lent of the planes are the costs of row i.
use Rattle.std.proofs.Common.{sym, ap, ◌∙◌}
use Rattle.grids.specs.Table.{table}
use Rattle.seam_theory.proofs.Kept.{kept_sum}
use Rattle.seam_find_kept.proofs.PlaneRows.{row-lent}
use Rattle.seam_find_kept.proofs.KeptRows.{one-lent, steps-lent}
use Rattle.seam_find_kept.proofs.down.row_sums.Goals as goal

pub returns-then-has_one_cost : goal.returns-then-has_one_cost
returns-then-has_one_cost g c =
    let a = c.args in
    let k = a.costs in
    let n = c.requires in
    c.row_by_one.ensures
    ∙ ap (λ x. table (kept_sum g.S.Sum.most (g.S.Sum.held a.above.now) x) a.width)
    (one-lent a.method.energy a.size a.width k.up.now k.left.now k.right.now a.i n.planes.within n.row.inside
    (sym c.has_one_cost.ensures ∙ c.if-has_one_cost.true) (row-lent a.size a.width a.i k.up.now))

pub returns-else-has_one_cost : goal.returns-else-has_one_cost
returns-else-has_one_cost g c =
    let a = c.args in
    let k = a.costs in
    let n = c.requires in
    c.row_by_steps.ensures
    ∙ ap (λ x. table (kept_sum g.S.Sum.most (g.S.Sum.held a.above.now) x) a.width)
    (steps-lent a.method.energy a.size a.width k.up.now k.left.now k.right.now a.i n.planes.within n.row.inside
    (sym c.has_one_cost.ensures ∙ c.if-has_one_cost.false) (row-lent a.size a.width a.i k.up.now) (row-lent a.size a.width a.i k.left.now)
    (row-lent a.size a.width a.i k.right.now))
