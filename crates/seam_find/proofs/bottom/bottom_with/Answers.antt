-- `seam_find::bottom::bottom_with` meets its contract. The costs of row 0, written between the fences, are its sums; from them
-- `down` comes to the sums of the last row, and the first of the least of these is where the path ends.
use Rattle.std.proofs.Common.{ℕ, false, ◌+◌, ◌-◌, get_or, length, take, drop, ap, ◌∙◌, length-take-le, rules, arith, Fits, w8}
use lib.ListN.{length-append, length-drop}
use mathlib.Core.List.{map}
use Rattle.pictures.proofs.Limits.{sides_are}
use Rattle.seam_sums.proofs.Values.{values_put}
use Rattle.seam_theory.specs.Sums.{fenced}
use Rattle.seam_theory.proofs.Kept.{kept_first}
use Rattle.seam_find.specs.Costing.{RowAsked}
use Rattle.seam_find.proofs.Priced.{cheap}
use Rattle.seam_find.proofs.Fences.{first_row_is, column-inside, bottom-given}
use Rattle.seam_find.proofs.bottom.bottom_with.Goals as goal

pub down-requires-clause-rows : goal.down-requires-clause-rows
down-requires-clause-rows g c =
    let a = c.args in
    let z = a.allowed.size in
    let p = c.requires in
    let value = g.C.Sum.Number.value in
    let front = c.front_bytes-front in
    let costs = g.C.Costing.costs z a.method in
    let laws = front.ensures.laws in
    let row = costs (take (g.C.Costing.front z) a.space.now) 0 in
    let fits : (i : ℕ) → Fits w8 (get_or a.space.now i 0) = search rules in
    let asked : RowAsked (g.C.Costing.front z) z 0 z.width (length (take front.result a.space.now)) (length (take z.width a.energies.now)) (length (take (z.width + 1 - 1) (drop 1 a.above.now))) = search rules in
    record {
      room = p.room;
      first =
          values_put value 1 (z.width + 1 - 1) a.above.now c.cost_row.new.cost
          ∙ first_row_is g.C.Sum.Number.fence z.width (map value a.above.now) (map value c.cost_row.new.cost) row.up
          p.fences (c.cost_row.ensures asked ∙ ap (λ n. (costs (take n a.space.now) 0).up) front.ensures.bytes)
          ∙ ap (λ n. fenced false n z.width row.up) laws.ends
          ∙ kept_first g.C.Sum.Number.most g.C.Costing.fence z.width (costs (take (g.C.Costing.front z) a.space.now))
          (λ k. omega (arith, (cheap laws z a.method a.space.now a.allowed.allowed (omega (arith, p.room)) (λ i. omega (arith, fits i)) 0).up k, laws.single, laws.ends));
      energies_room = omega (arith, length-append c.cost_row.new.energies (drop z.width a.energies.now), c.cost_row.auto.energies, length-take-le z.width a.energies.now (omega (arith, p.energies_room)), length-drop z.width a.energies.now, p.energies_room);
      steps_room = p.steps_room;
      next_room = p.next_room;
    }

pub bounds-sums-column : goal.bounds-sums-column
bounds-sums-column g c =
    column-inside g.C.Sum.Number.value c.down.new.above c.down.ensures (c.front_bytes-front.ensures.laws.wide _ _ _ _) (sides_are c.args.allowed.size c.args.allowed.allowed).width_some c.first_least-column.ensures

pub offset_bounds-sums-column : goal.offset_bounds-sums-column
offset_bounds-sums-column g c = omega (arith, bounds-sums-column g c)

pub returns : goal.returns
returns g c =
    bottom-given g.C.Sum.Number.value c.down.new.above c.down.ensures (c.front_bytes-front.ensures.laws.wide _ _ _ _) (sides_are c.args.allowed.size c.args.allowed.allowed).width_some c.first_least-column.ensures
    c.index-sums-column.is
