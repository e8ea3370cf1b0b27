-- `seam_find_kept::rows::row_by_one` meets its contract. The loop's invariant: the sums of the first c columns are stored.
use Rattle.std.proofs.Common.{◌≡◌, min, sym, ap, ◌∙◌, arith}
use Rattle.grids.specs.Table.{table}
use Rattle.grids.proofs.Tables.{stored_start, stored_turn, stored_end}
use Rattle.pictures.specs.Numbers.{numbers_in}
use Rattle.seam_theory.specs.Sums.{alike_rows}
use Rattle.seam_theory.proofs.Alike.{sum_alike}
use Rattle.seam_theory.proofs.Kept.{kept_sum}
use Rattle.seam_find_kept.proofs.rows.row_by_one.Goals as goal

pub loop-c-init : goal.loop-c-init
loop-c-init g c = stored_start _ _ _ (omega (arith, c.requires.next_long))

pub loop-c-preserved : goal.loop-c-preserved
loop-c-preserved g c =
    let l = c.loop-c in
    let held = g.S.Sum.held in
    let x = held c.args.above.now in
    let sum : g.S.Sum.value c.plus.result ≡ kept_sum g.S.Sum.most x (alike_rows (numbers_in c.args.cost.now)) l.c =
    rw (
      c.plus.ensures,
      c.lesser-least.ensures,
      c.lesser.ensures,
      c.at.ensures,
      c.at-in-loop-c.ensures,
      c.at-in-loop-c-2.ensures,
      c.pair_at.ensures,
    )
    (ap (min g.S.Sum.most) (sym (sum_alike x (numbers_in c.args.cost.now) l.c))) in
    rw c.put.ensures (stored_turn _ _ _ l.c (held l.next) _ 0 c.loop-c-test.true sum l.invariant)

pub returns : goal.returns
returns g c =
    let l = c.loop-c in
    let held = g.S.Sum.held in
    let sums = kept_sum g.S.Sum.most (held c.args.above.now) (alike_rows (numbers_in c.args.cost.now)) in
    stored_end _ _ _ l.c (held l.next) (omega arith) l.invariant ∙ ap (table sums) (sym l.invariant.all)
