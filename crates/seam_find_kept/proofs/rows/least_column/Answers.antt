-- `seam_find_kept::rows::least_column` meets its contract: one column more, less than the least so far or not. The loop's
-- invariant: best is the first of the least before column c.
use Rattle.std.proofs.Common.{◌≡◌, ◌-◌, get_or, sym, ap, ◌∙◌, arith}
use borrow.Author.Tests.{ltb-true, ltb-false}
use lib.ListN.{take, drop}
use Rattle.seam_theory.specs.Sums.{least_to}
use Rattle.seam_sums.proofs.Turns.{so_far_start, least-moves, least_stays}
use Rattle.seam_find_kept.proofs.Small.{inner_at}
use Rattle.seam_find_kept.proofs.rows.least_column.Goals as goal
use Rattle.seam_find_kept.proofs.rows.least_column.Goals.{then-is_less, else-is_less}

pub loop-c-init : goal.loop-c-init
loop-c-init g c = so_far_start _

pub at-requires-in-loop-c : goal.at-requires-in-loop-c
at-requires-in-loop-c g c = omega (arith, c.requires, c.loop-c-test.true, c.loop-c.invariant.before)

pub loop-c-preserved : goal.loop-c-preserved
loop-c-preserved g c =
    let l = c.loop-c in
    let w = c.args.width in
    let x = g.S.Sum.held c.args.row.now in
    let value = g.S.Sum.value in
    let at_c : value c.at.result ≡ get_or (take w (drop 1 x)) l.c 0 = c.at.ensures ∙ sym (inner_at w x l.c c.loop-c-test.true) in
    let at_best : value c.at-in-loop-c.result ≡ get_or (take w (drop 1 x)) l.best 0 =
    c.at-in-loop-c.ensures ∙ sym (inner_at w x l.best (omega (arith, l.invariant.before, c.loop-c-test.true))) in
    elim c.if-is_less.branch [
      | then-is_less t ↦ rw t.best-is (least-moves _ l.c l.best l.invariant (omega (arith, at_c, at_best, ltb-true _ _ (sym c.is_less.ensures ∙ t.if-is_less.true))))
      | else-is_less t ↦ rw t.best-is (least_stays _ l.c l.best l.invariant (omega (arith, at_c, at_best, ltb-false _ _ (sym c.is_less.ensures ∙ t.if-is_less.false))))
    ]

pub returns : goal.returns
returns g c =
    let l = c.loop-c in
    let last : l.c ≡ c.args.width = omega (arith, c.loop-c-test.false, l.auto.c-end) in
    l.invariant.is ∙ ap (λ n. least_to (take c.args.width (drop 1 (g.S.Sum.held c.args.row.now))) (n - 1)) last
