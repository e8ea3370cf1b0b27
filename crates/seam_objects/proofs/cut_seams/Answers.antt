-- `seam_objects::cut_seams` meets its contract.
use Rattle.std.proofs.Common.{ℕ, get_or, refl, sym, arith, rules, Fits, w8}
use Rattle.seam_objects.proofs.Seams.{going_start, going_needed, going_ended, going-blocked, going_on}
use Rattle.seam_objects.proofs.cut_seams.Goals as goal

pub loop-ended-init : goal.loop-ended-init
loop-ended-init c =
    let a = c.args in
    let fits : (i : ℕ) → Fits w8 (get_or a.picture.now i 0) = search rules in
    (going_start a.size a.method a.picture.now a.marks.now a.work.now a.budget (λ i. omega (arith, fits i)) c.requires, (refl, (refl, refl)))

pub returns-in-Some : goal.returns-in-Some
returns-in-Some c = going_ended c.loop-ended.invariant.0 c.has_two-marked.ensures c.in-Some.ended (sym c.in-Some.ensures)

pub cut_front-requires : goal.cut_front-requires
cut_front-requires c =
    let l = c.loop-ended in
    going_needed l.invariant.0 c.has_two-marked.ensures c.in_default.ensures (omega (arith, c.requires.room, l.invariant.1.1.1))

pub returns-in_default-cut_front : goal.returns-in_default-cut_front
returns-in_default-cut_front c =
    going-blocked c.loop-ended.invariant.0 c.has_two-marked.ensures c.in_default.ensures c.in_default-cut_front.ensures

pub loop-ended-preserved : goal.loop-ended-preserved
loop-ended-preserved c =
    let l = c.loop-ended in
    let q = c.cut_front in (
      going_on l.invariant.0 c.has_two-marked.ensures c.in_default.ensures c.in-Ok.ensures,
      (
        omega (arith, q.auto.picture, l.invariant.1.0),
        (
          omega (arith, q.auto.marks, l.invariant.1.1.0),
          omega (arith, l.invariant.1.1.1, q.auto.work),
        ),
      ),
    )
