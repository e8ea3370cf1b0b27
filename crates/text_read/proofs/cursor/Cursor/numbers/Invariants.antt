-- `text_read::cursor::Cursor::numbers` meets its contract. The loop's state is `CountingNumbers`, and the bytes left fall.
use Rattle.std.proofs.Common.{length, ◌-◌}
use Rattle.text_read.proofs.FormSteps.{CountingNumbers}
use Rattle.text_read.proofs.cursor.Cursor.numbers.Given as goal

abbrev pub invariant-loop-class : goal.invariant-loop-class
invariant-loop-class l = CountingNumbers l.limit l.text l.initial.here.at l.n l.here.at

abbrev pub decreases-loop-class : goal.decreases-loop-class
decreases-loop-class l = length l.text - l.here.at
