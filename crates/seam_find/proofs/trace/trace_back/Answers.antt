-- `seam_find::trace::trace_back` meets its contract: past the test there is a path, and a column more of it is stored.
use Rattle.std.proofs.Common.{◌≡◌, ◌+◌, ◌-◌, ◌<◌, length, refl, sym, ◌∙◌, arith}
use Rattle.seam_theory.specs.Sums.{columns_to}
use Rattle.seam_find.proofs.Loops.{traceable_has, traced_is, back_start, back_turn, back_end, length_columns}
use Rattle.seam_find.proofs.trace.trace_back.Goals as goal

pub overflow_step-i : goal.overflow_step-i
overflow_step-i c = (traceable_has _ _ _ _ _ (sym c.judge_trace.ensures ∙ c.if-not-judge_trace.false)).some

pub loop-i-init : goal.loop-i-init
loop-i-init c =
    let a = c.args in
    let ways = a.ways.now in
    let seam = a.seam.now in
    let t = traceable_has _ _ _ _ _ (sym c.judge_trace.ensures ∙ c.if-not-judge_trace.false) in
    let last = a.height - 1 in
    (t, back_start ways seam (columns_to ways a.width last a.column) a.width a.height last a.column refl (omega (arith, t.some)) t.inside)

pub loop-i-preserved : goal.loop-i-preserved
loop-i-preserved c =
    let a = c.args in
    let ways = a.ways.now in
    let seam = a.seam.now in
    let l = c.loop-i in
    let t = l.invariant.0 in
    let room : l.i < length seam = omega (arith, t.room, l.invariant.1.row) in
    let here : l.i - 1 + 1 ≡ l.i = omega arith in (
      t,
      rw (here, c.step-c.ensures)
          (back_turn ways seam (columns_to ways a.width (a.height - 1) a.column) a.width a.height l.i l.c l.seam c.loop-i-test.true room l.invariant.1),
    )

pub returns : goal.returns
returns c =
    let a = c.args in
    let ways = a.ways.now in
    let seam = a.seam.now in
    let path = columns_to ways a.width (a.height - 1) a.column in
    let l = c.loop-i in
    let t = l.invariant.0 in
    let long = length_columns ways seam path a.width a.height (a.height - 1) a.column in
    back_end ways seam path a.width a.height l.i l.c l.seam (omega arith)
    (omega (arith, t.room, t.some)) (omega (arith, t.some, long)) l.invariant.1
    ∙ sym (traced_is ways a.width a.height a.column seam t)
