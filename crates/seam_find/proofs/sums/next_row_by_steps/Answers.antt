-- `seam_find::sums::next_row_by_steps` meets its contract: a sum and a way more are stored.
use Rattle.std.proofs.Common.{◌≡◌, ◌+◌, min, length, refl, sym, ap, ap₂, ◌∙◌, inr, arith}
use mathlib.Core.List.{map}
use lib.ListN.{length-map}
use Rattle.std.proofs.lemmas.List.{map-set}
use Rattle.grids.proofs.Tables.{stored_turn}
use Rattle.seam_theory.specs.Sums.{left_sum, up_sum, right_sum}
use Rattle.seam_theory.proofs.Ways.{way_plain}
use Rattle.seam_sums.proofs.Values.{value_at}
use Rattle.seam_find.specs.Costing.{thirds}
use Rattle.seam_find.proofs.Thirds.{left_third, up_third, right_third, three}
use Rattle.seam_find.proofs.sums.next_row_by_steps.Goals as goal

pub loop-c-preserved : goal.loop-c-preserved
loop-c-preserved g c =
    let value = g.N.Number.value in
    let above = c.args.above.now in
    let l = c.loop-c in
    let inside = c.loop-c-test.true in
    let n = length c.args.next.now in
    let x = map value above in
    let k = thirds n (map value c.args.steps.now) in
    let long = length-map above value in
    let first = c.split_at.ensures in
    let second = c.split_at-2.ensures in
    let left = value_at value above l.c _ (omega arith) c.index-above-c.is in
    let middle = value_at value above (l.c + 1) _ (omega arith) c.index-above-c-in-loop-c.is in
    let right = value_at value above (l.c + 2) _ (omega arith) c.index-above-c-in-loop-c-2.is in
    let from_left = left_third value n c.args.steps.now l.c _ first.front (omega arith) c.index-from_left-c.is in
    let from_above = up_third value n c.args.steps.now l.c _ first.back second.front (omega arith) c.index-from_above-c.is in
    let from_right = right_third value n c.args.steps.now l.c _ first.back second.back (omega arith) c.index-from_right-c.is in
    let by_left : value c.plus-left.result ≡ left_sum x k l.c =
    c.plus-left.ensures (omega (arith, left, c.requires.small l.c), omega (arith, from_left, c.requires.cheap_left l.c)) ∙ ap₂ ◌+◌ (sym left) (sym from_left) in
    let by_middle : value c.plus-middle.result ≡ up_sum x k l.c =
    c.plus-middle.ensures (omega (arith, middle, c.requires.small (l.c + 1)), omega (arith, from_above, c.requires.cheap_up l.c)) ∙ ap₂ ◌+◌ (sym middle) (sym from_above) in
    let by_right : value c.plus-right.result ≡ right_sum x k l.c =
    c.plus-right.ensures (omega (arith, right, c.requires.small (l.c + 2)), omega (arith, from_right, c.requires.cheap_right l.c)) ∙ ap₂ ◌+◌ (sym right) (sym from_right) in
    let least = c.lesser-in-loop-c.ensures ∙ ap₂ min by_left (c.lesser.ensures ∙ ap₂ min by_middle by_right) ∙ sym (three x k l.c) in
    let sum = c.capped.ensures ∙ ap (min g.N.Number.most) least in
    let way = c.way.ensures ∙ rw (by_left, by_middle, by_right) (sym (way_plain _ n x k l.c (inr refl) (inr refl))) in (
      rw (map-set value l.next l.c c.capped.result) (stored_turn _ _ _ l.c (map value l.next) _ 0 inside sum l.invariant.0),
      stored_turn _ _ _ l.c l.ways _ 0 inside way l.invariant.1,
    )
