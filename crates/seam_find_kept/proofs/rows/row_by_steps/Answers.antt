-- `seam_find_kept::rows::row_by_steps` meets its contract. The loop's invariant: the sums of the first c columns are stored.
use Rattle.std.proofs.Common.{◌≡◌, sym, ap, ◌∙◌, arith}
use Rattle.grids.specs.Table.{table}
use Rattle.grids.proofs.Tables.{stored_start, stored_turn, stored_end}
use Rattle.seam_theory.proofs.Capped.{capped_three}
use Rattle.seam_find_kept.specs.Inner.Rows.{step_rows}
use Rattle.seam_theory.proofs.Kept.{kept_sum}
use Rattle.seam_find_kept.proofs.rows.row_by_steps.Goals as goal

pub loop-c-init : goal.loop-c-init
loop-c-init g c = stored_start _ _ _ (omega (arith, c.requires.next_long))

pub loop-c-preserved : goal.loop-c-preserved
loop-c-preserved g c =
    let l = c.loop-c in
    let a = c.args in
    let held = g.S.Sum.held in
    let x = held a.above.now in
    let k = step_rows a.from_up.now a.from_left.now a.from_right.now in
    let sum : g.S.Sum.value c.lesser-in-loop-c.result ≡ kept_sum g.S.Sum.most x k l.c =
    rw (
      c.lesser-in-loop-c.ensures,
      c.lesser.ensures,
      c.plus-left.ensures,
      c.plus-up.ensures,
      c.plus-right.ensures,
      c.at.ensures,
      c.at-in-loop-c.ensures,
      c.at-in-loop-c-2.ensures,
      c.pair_at.ensures,
      c.pair_at-in-loop-c.ensures,
      c.pair_at-in-loop-c-2.ensures,
    )
    (capped_three g.S.Sum.most x k l.c) in
    rw c.put.ensures (stored_turn _ _ _ l.c (held l.next) _ 0 c.loop-c-test.true sum l.invariant)

pub returns : goal.returns
returns g c =
    let l = c.loop-c in
    let a = c.args in
    let held = g.S.Sum.held in
    let sums = kept_sum g.S.Sum.most (held a.above.now) (step_rows a.from_up.now a.from_left.now a.from_right.now) in
    stored_end _ _ _ l.c (held l.next) (omega arith) l.invariant ∙ ap (table sums) (sym l.invariant.all)
