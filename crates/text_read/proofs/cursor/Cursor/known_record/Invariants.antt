-- `text_read::cursor::Cursor::known_record` meets its contract. The invariant is `Recording`: as many numbers as the index says stand at
-- the front of the space, two bytes each, and here is the place after them.
use Rattle.std.proofs.Common.{length, ◌/◌}
use Rattle.text_read.proofs.KnownLines.{Recording}
use Rattle.text_read.proofs.cursor.Cursor.known_record.Given as goal

abbrev pub invariant-loop-i : goal.invariant-loop-i
invariant-loop-i l = Recording (length l.initial.out / 2) l.text l.initial.here.at l.i l.here.at l.out
