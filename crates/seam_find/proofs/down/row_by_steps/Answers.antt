-- `seam_find::down::row_by_steps` meets its contract. From the three rows of costs `next_row_by_steps` works out the row's sums and its
-- ways; no cost reaches the fence, and the ways are put in their place.
use Rattle.std.proofs.Common.{◌≡◌, ℕ, ◌+◌, ◌*◌, get_or, length, take, sym, ap, ◌∙◌, rules, arith, Fits, w8}
use mathlib.Core.List.{map}
use Rattle.pictures.proofs.Limits.{sides_are}
use Rattle.seam_find.specs.Costing.{RowAsked, RowsMost, thirds}
use Rattle.seam_find.proofs.Priced.{cheap}
use Rattle.seam_find.proofs.OneRow.{row-worked, ways-end, sums-within}
use Rattle.seam_find.proofs.down.row_by_steps.Given.{Over}
use Rattle.seam_find.proofs.down.row_by_steps.Goals as goal
use Rattle.seam_find.proofs.down.row_by_steps.Goals.{After-step_rows}

module _ (g : Over) (c : After-step_rows g) where
  -- the three rows are the costs of row i
  priced : thirds (length c.args.next.now) (map g.C.Sum.Number.value c.step_rows.new.steps)
      ≡ g.C.Costing.costs c.args.allowed.size c.args.method (take (g.C.Costing.front c.args.allowed.size) c.args.space.now) c.args.i
  priced =
      let a = c.args in
      let z = a.allowed.size in
      let n = c.requires in
      let q = c.front_bytes-front.result in
      let asked : RowAsked (g.C.Costing.front z) z a.i (3 * z.width) (length (take q a.space.now)) (length a.energies.now) (length a.steps.now) = search rules in
      ap (λ k. thirds k (map g.C.Sum.Number.value c.step_rows.new.steps)) n.next_room
      ∙ c.step_rows.ensures asked
      ∙ ap (λ k. g.C.Costing.costs z a.method (take k a.space.now) a.i) c.front_bytes-front.ensures.bytes

  -- and none of them is more than the most
  few : RowsMost g.C.Costing.dearest (thirds (length c.args.next.now) (map g.C.Sum.Number.value c.step_rows.new.steps))
  few =
      let a = c.args in
      let fits : (i : ℕ) → Fits w8 (get_or a.space.now i 0) = search rules in
      rw priced (cheap c.front_bytes-front.ensures.laws a.allowed.size a.method a.space.now a.allowed.allowed (omega (arith, c.requires.room)) (λ i. omega (arith, fits i)) a.i)

pub next_row_by_steps-requires : goal.next_row_by_steps-requires
next_row_by_steps-requires g c =
    let a = c.args in
    let n = c.requires in
    let k = few g (goal.at.next_row_by_steps-requires g c).After-step_rows in
    let low = c.front_bytes-front.ensures.laws.single in
    record {
      above = n.long ∙ ap (◌+ 2) (sym n.next_room);
      steps_room = omega (arith, c.step_rows.auto.steps, n.steps_room, n.next_room);
      small = sums-within n.fences n.small;
      cheap_left = λ i. omega (arith, k.left i, low);
      cheap_up = λ i. omega (arith, k.up i, low);
      cheap_right = λ i. omega (arith, k.right i, low);
      ways_room = (ways-end n (sides_are a.allowed.size a.allowed.allowed) c.front_bytes-front.result c.front_bytes-front.ensures.bytes).wide;
    }

pub returns : goal.returns
returns g c =
    let a = c.args in
    let z = a.allowed.size in
    let q = c.front_bytes-front.result in
    let bytes = c.front_bytes-front.ensures.bytes in
    row-worked _ _ z (g.C.Costing.costs z a.method) a.i q (length a.next.now) a.space.now _ c.next_row_by_steps.new.ways _ _ bytes
    (ways-end c.requires (sides_are z a.allowed.allowed) q bytes).end (priced g (goal.at.returns g c).After-step_rows) c.requires.next_room
    c.next_row_by_steps.ensures.ways_given c.next_row_by_steps.ensures.next_given
