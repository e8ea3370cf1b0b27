-- `seam_find_kept::rows::first_row` meets its contract. The loop's invariant: the costs of the first c columns are stored.
use Rattle.std.proofs.Common.{◌∙◌, arith}
use Rattle.grids.proofs.Tables.{stored_start, stored_turn, copied-end}
use Rattle.pictures.specs.Numbers.{numbers_in}
use Rattle.pictures.proofs.TwoBytes.{length-numbers}
use Rattle.seam_find_kept.proofs.rows.first_row.Goals as goal

pub loop-c-init : goal.loop-c-init
loop-c-init g c = stored_start _ _ _ (omega (arith, c.requires.next_long))

pub loop-c-preserved : goal.loop-c-preserved
loop-c-preserved g c =
    let l = c.loop-c in
    rw c.put.ensures (stored_turn _ _ _ l.c (g.S.Sum.held l.next) _ 0 c.loop-c-test.true (c.from_cost.ensures ∙ c.pair_at.ensures) l.invariant)

pub returns : goal.returns
returns g c =
    let l = c.loop-c in
    let cost = c.args.cost.now in
    copied-end (numbers_in cost) _ 0 _ l.c (g.S.Sum.held l.next)
    (omega (arith, length-numbers cost, c.requires.cost_long, c.requires.next_long)) (omega arith) l.invariant
