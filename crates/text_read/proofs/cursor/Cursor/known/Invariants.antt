-- `text_read::cursor::Cursor::known` meets its contract. The invariant is `Filling`, where the numbers come: as many as the index says
-- stand at the front of the space, and here is the place after them.
use Rattle.std.proofs.Common.{length, take, map}
use Rattle.text_read.proofs.Figures.{FillingIf}
use Rattle.text_read.proofs.cursor.Cursor.known.Given as goal

abbrev pub invariant-loop-place : goal.invariant-loop-place
invariant-loop-place g l =
    FillingIf g.T.Kept.largest (length l.initial.out) l.text l.initial.here.at l.place-index l.here.at (map g.T.Kept.value (take l.place-index l.out))
