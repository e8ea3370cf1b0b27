-- `seam_sums::least::first_least` meets its contract: one column more, less than the least so far or not.
use Rattle.std.proofs.Common.{◌≡◌, ◌<◌, length, get_or, sym, ◌∙◌, arith}
use mathlib.Core.List.{map}
use borrow.Author.Tests.{leb-true, leb-false}
use Rattle.seam_sums.proofs.Turns.{so_far_start, least-moves, least_stays}
use Rattle.seam_sums.proofs.Values.{value_at}
use Rattle.seam_sums.proofs.least.first_least.Goals as goal
use Rattle.seam_sums.proofs.least.first_least.Goals.{then-is_less, else-is_less}

pub loop-k-init : goal.loop-k-init
loop-k-init g c = so_far_start _

pub loop-k-preserved : goal.loop-k-preserved
loop-k-preserved g c =
    let l = c.loop-k in
    let value = g.N.Number.value in
    let sums = c.args.sums.now in
    let inside : l.k < length sums = c.loop-k-test.true in
    let at_k : get_or (map value sums) l.k 0 ≡ value c.index-sums-k.result = value_at value sums l.k _ inside c.index-sums-k.is in
    let at_best : get_or (map value sums) l.best 0 ≡ value c.index-sums-best.result =
    value_at value sums l.best _ (omega (arith, l.invariant.before)) c.index-sums-best.is
    in
    elim c.if-is_less.branch [
      | then-is_less w ↦
          rw w.best-is
          (least-moves _ l.k l.best l.invariant (rw (at_k, at_best) (leb-false _ _ (sym c.is_at_most-is_less.ensures ∙ w.if-is_less.true))))
      | else-is_less w ↦
          rw w.best-is
          (least_stays _ l.k l.best l.invariant (rw (at_k, at_best) (leb-true _ _ (sym c.is_at_most-is_less.ensures ∙ w.if-is_less.false))))
    ]
