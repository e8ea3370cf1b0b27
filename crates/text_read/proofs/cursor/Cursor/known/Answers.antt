-- `text_read::cursor::Cursor::known` meets its contract. The invariant is `Filling`, where the numbers come: as many as the index says
-- stand at the front of the space, and here is the place after them.
use Rattle.std.proofs.Common.{sym, arith}
use Rattle.text_read.proofs.Figures.{filling_first, kept_turn, kept_none, kept_done}
use Rattle.text_read.proofs.cursor.Cursor.known.Goals as goal

pub loop-place-init : goal.loop-place-init
loop-place-init g c = filling_first

pub returns-in_default : goal.returns-in_default
returns-in_default g c = kept_none g.T.Kept.value c.loop-place.out c.loop-place.invariant (omega (arith, c.loop-place.auto.out)) c.in_default.ensures _ _

pub loop-place-preserved : goal.loop-place-preserved
loop-place-preserved g c =
    kept_turn g.T.Kept.value c.loop-place.out c.loop-place.invariant (omega (arith, c.loop-place.auto.out)) (sym c.loop-place.auto.out) c.in-Some.ensures c.kept.result c.kept.ensures

pub returns : goal.returns
returns g c = kept_done g.T.Kept.value c.loop-place.out c.loop-place.invariant c.loop-place-test.false (sym c.loop-place.auto.out) c.after_line.ensures
