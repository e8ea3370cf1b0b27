-- `seam_find::sums::next_row` meets its contract: a sum and a way more are stored.
use Rattle.std.proofs.Common.{◌+◌, ◌≤◌, ◌<◌, min, length, sym, ap, ◌∙◌, arith}
use mathlib.Core.List.{map}
use lib.ListN.{length-map}
use Rattle.std.proofs.lemmas.List.{map-set}
use Rattle.grids.proofs.Tables.{stored_turn}
use Rattle.seam_theory.proofs.Alike.{sum_alike, way_alike}
use Rattle.seam_sums.proofs.Values.{value_at}
use Rattle.seam_find.proofs.sums.next_row.Goals as goal

pub loop-c-preserved : goal.loop-c-preserved
loop-c-preserved g c =
    let value = g.N.Number.value in
    let above = c.args.above.now in
    let cost = c.args.cost.now in
    let l = c.loop-c in
    let inside = c.loop-c-test.true in
    let long = length-map above value in
    let wide = length-map cost value in
    let left = value_at value above l.c _ (omega arith) c.index-above-c.is in
    let middle = value_at value above (l.c + 1) _ (omega arith) c.index-above-c-in-loop-c.is in
    let right = value_at value above (l.c + 2) _ (omega arith) c.index-above-c-in-loop-c-2.is in
    let price = value_at value cost l.c _ (omega arith) c.index-cost-c.is in
    let least = c.lesser-in-loop-c.ensures ∙ ap (min (value c.index-above-c.result)) c.lesser.ensures in
    let small : value c.index-above-c-in-loop-c.result ≤ g.N.Number.fence = omega (arith, middle, c.requires.small l.c inside) in
    let cheap : value c.index-cost-c.result < g.N.Number.fence = omega (arith, price, c.requires.cheap l.c) in
    let fenced : value c.lesser-in-loop-c.result ≤ g.N.Number.fence = omega (arith, c.lesser.ensures, c.lesser-in-loop-c.ensures, small) in
    let all = c.plus.ensures (fenced, cheap) ∙ ap (◌+ value c.index-cost-c.result) least ∙ sym (rw (left, middle, right, price) at (sum_alike (map value above) (map value cost) l.c)) in
    let sum = c.capped.ensures ∙ ap (min g.N.Number.most) all in
    let way = c.way.ensures ∙ sym (rw (left, middle, right) at (way_alike (length c.args.next.now) (map value above) (map value cost) l.c)) in (
      rw (map-set value l.next l.c c.capped.result) (stored_turn _ _ _ l.c (map value l.next) _ 0 inside sum l.invariant.0),
      stored_turn _ _ _ l.c l.ways _ 0 inside way l.invariant.1,
    )
