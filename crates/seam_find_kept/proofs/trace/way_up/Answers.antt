-- `seam_find_kept::trace::way_up` meets its contract: the way is by the sums alone where the costs are alike, else by sums and costs.
use Rattle.std.proofs.Common.{◌+◌, sym, ◌∙◌}
use Rattle.seam_find_kept.proofs.PlaneRows.{number_within}
use Rattle.seam_find_kept.proofs.KeptRows.{way_by-one, way_by-steps}
use Rattle.seam_find_kept.proofs.trace.way_up.Goals as goal

pub pair_at-requires : goal.pair_at-requires
pair_at-requires g c =
    let n = c.requires in
    number_within c.args.size c.args.width (c.args.i + 1) c.args.c _ n.planes.within n.row.inside n.row.column
    (n.planes.left_long (sym c.has_one_cost.ensures ∙ c.if-has_one_cost.false))

pub pair_at-requires-2 : goal.pair_at-requires-2
pair_at-requires-2 g c =
    let n = c.requires in
    number_within c.args.size c.args.width (c.args.i + 1) c.args.c _ n.planes.within n.row.inside n.row.column n.planes.up_long

pub pair_at-requires-3 : goal.pair_at-requires-3
pair_at-requires-3 g c =
    let n = c.requires in
    number_within c.args.size c.args.width (c.args.i + 1) c.args.c _ n.planes.within n.row.inside n.row.column
    (n.planes.right_long (sym c.has_one_cost.ensures ∙ c.if-has_one_cost.false))

pub returns-then-has_one_cost : goal.returns-then-has_one_cost
returns-then-has_one_cost g c =
    let a = c.args in
    let k = a.costs in
    let n = c.requires in
    c.way.ensures
    ∙ rw (c.number-left.ensures, c.number-up.ensures, c.number-right.ensures, c.at.ensures, c.at-2.ensures, c.at-3.ensures)
    (sym (way_by-one a.method.energy a.size a.width k.up.now k.left.now k.right.now
    (a.i + 1) n.planes.within n.row.inside _ a.c n.row.column
    (sym c.has_one_cost.ensures ∙ c.if-has_one_cost.true)))

pub returns : goal.returns
returns g c =
    let a = c.args in
    let k = a.costs in
    let n = c.requires in
    c.way-2.ensures
    ∙ rw (
      c.number-left.ensures,
      c.number-up.ensures,
      c.number-right.ensures,
      c.at.ensures,
      c.at-2.ensures,
      c.at-3.ensures,
      c.from.ensures,
      c.from-2.ensures,
      c.from-3.ensures,
      c.pair_at.ensures,
      c.pair_at-2.ensures,
      c.pair_at-3.ensures,
    )
    (sym (way_by-steps a.method.energy a.size a.width k.up.now k.left.now k.right.now
    (a.i + 1) n.planes.within n.row.inside _ a.c n.row.column
    (sym c.has_one_cost.ensures ∙ c.if-has_one_cost.false)))
