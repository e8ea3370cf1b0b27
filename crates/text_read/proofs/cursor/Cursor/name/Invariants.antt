-- `text_read::cursor::Cursor::name` meets its contract. The invariant: none of the first names stands here.
use Rattle.text_read.proofs.WordSteps.{Naming}
use Rattle.text_read.proofs.cursor.Cursor.name.Given as goal

abbrev pub invariant-loop-name : goal.invariant-loop-name
invariant-loop-name l = Naming l.text l.fn.self.at l.name-index
