-- `map_check::seams::fill_columns` meets its contract: each turn stores the column of one number, or passes a 0.
use Rattle.std.proofs.Common.{refl, ◌∙◌, get_or, arith}
use lib.ListN.{length-set}
use Rattle.map_check.proofs.Columns.{held_turn, held_zero}
use Rattle.map_check.proofs.seams.fill_columns.Goals as goal
use Rattle.map_check.proofs.seams.fill_columns.Goals.{then-t-ne0, else-t-ne0}

pub loop-c-preserved : goal.loop-c-preserved
loop-c-preserved c =
    let l = c.loop-c in
    let row = c.args.row.now in
    let inside = c.loop-c-test.true in
    let held = l.invariant.3 in
    elim c.if-t-ne0.branch [
      | then-t-ne0 w ↦
          rw w.columns-is
          (refl, omega (arith, inside), length-set l.columns (get_or row l.c 0) w.left_ahead.result ∙ l.invariant.2, held_turn row l.columns l.c inside w.left_ahead.result (omega (arith, c.requires.below l.c, l.invariant.2)) w.left_ahead.ensures held)
      | else-t-ne0 w ↦ rw w.columns-is (refl, omega (arith, inside), l.invariant.2, held_zero row l.columns l.c inside w.if-t-ne0.false held)
    ]
