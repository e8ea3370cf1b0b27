-- `text_read::cursor::Cursor::letters` meets its contract. The invariant is `Spelling`: as many letters as the index says were passed.
use Rattle.text_read.proofs.Letters.{Spelling}
use Rattle.text_read.proofs.cursor.Cursor.letters.Given as goal

abbrev pub invariant-loop-letter : goal.invariant-loop-letter
invariant-loop-letter l = Spelling l.letters l.text l.initial.here.at l.letter-index l.here.at
