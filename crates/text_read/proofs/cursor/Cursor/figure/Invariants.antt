-- `text_read::cursor::Cursor::figure` meets its contract. The invariant is `Skipping`: no digit was passed. What falls is the number of
-- bytes left.
use Rattle.std.proofs.Common.{length, ◌-◌}
use Rattle.text_read.proofs.Figures.{Skipping}
use Rattle.text_read.proofs.cursor.Cursor.figure.Given as goal

abbrev pub invariant-loop-byte : goal.invariant-loop-byte
invariant-loop-byte l = Skipping l.text l.initial.here.at l.here.at

abbrev pub decreases-loop-byte : goal.decreases-loop-byte
decreases-loop-byte l = length l.text - l.here.at
