-- `text_read::cursor::Cursor::further` meets its contract. The invariant is `Reading`: n is what the digits passed so far say.
use Rattle.std.proofs.Common.{◌+◌}
use Rattle.pictures.specs.Numbers.{largest_number}
use Rattle.text_read.specs.Inner.{Reading}
use Rattle.text_read.proofs.cursor.Cursor.further.Given as goal

abbrev pub invariant-loop-i : goal.invariant-loop-i
invariant-loop-i l = Reading largest_number l.text l.fn.self.at l.n (l.fn.at + l.i)
