-- `seam_find::down::row_by_one` meets its contract. From the costs of row i `next_row` works out the row's sums and its ways; the ways
-- are put in their place.
use Rattle.std.proofs.Common.{◌≡◌, length, take, sym, ap, ◌∙◌, rules}
use mathlib.Core.List.{map}
use Rattle.pictures.proofs.Limits.{sides_are}
use Rattle.seam_theory.specs.Sums.{alike_rows}
use Rattle.seam_find.specs.Costing.{RowAsked}
use Rattle.seam_find.proofs.OneRow.{row-worked, ways-end}
use Rattle.seam_find.proofs.down.row_by_one.Goals as goal

pub returns : goal.returns
returns g c =
    let a = c.args in
    let z = a.allowed.size in
    let n = c.requires.rows in
    let costs = g.C.Costing.costs z a.method in
    let q = c.front_bytes-front.result in
    let bytes = c.front_bytes-front.ensures.bytes in
    let space = a.space.now in
    let cost = map g.C.Sum.Number.value c.cost_row.new.cost in
    let asked : RowAsked (g.C.Costing.front z) z a.i z.width (length (take q space)) (length (take z.width a.energies.now)) (length (take z.width a.steps.now)) = search rules in
    let priced : alike_rows cost ≡ costs (take (g.C.Costing.front z) space) a.i =
    ap alike_rows (c.cost_row.ensures asked)
    ∙ sym (c.front_bytes-front.ensures.laws.alike z a.method c.requires.one (take q space) a.i)
    ∙ ap (λ k. costs (take k space) a.i) bytes
    in
    row-worked _ _ z costs a.i q (length a.next.now) space _ c.next_row.new.ways (alike_rows cost) _ bytes (ways-end n (sides_are z a.allowed.allowed) q bytes).end
    priced n.next_room c.next_row.ensures.ways_given c.next_row.ensures.next_given
