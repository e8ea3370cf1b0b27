-- `text_read::cursor::Cursor::letters` meets its contract. The invariant is `Spelling`: as many letters as the index says were passed.
use Rattle.std.proofs.Common.{arith}
use Rattle.text_read.proofs.Letters.{name_letters, name_some, spelling_next, spelling_broken, spelling_end}
use Rattle.text_read.proofs.Onward.{refused_past}
use Rattle.text_read.proofs.cursor.Cursor.letters.Goals as goal

pub letter-requires : goal.letter-requires
letter-requires c = rw c.letters_of-letters.ensures (name_letters c.args.name c.loop-letter.letter-index (rw c.letters_of-letters.ensures at c.loop-letter-test.true))

pub returns-in_err-here : goal.returns-in_err-here
returns-in_err-here c = refused_past c.from_residual.ensures (rw c.letters_of-letters.ensures at (spelling_broken c.loop-letter.invariant c.loop-letter-test.true c.in_err-here.ensures))

pub loop-letter-preserved : goal.loop-letter-preserved
loop-letter-preserved c = spelling_next c.loop-letter.invariant c.loop-letter-test.true c.in_ok-here.ensures

pub returns : goal.returns
returns c = rw c.letters_of-letters.ensures at (spelling_end c.loop-letter.invariant (omega arith) (rw c.letters_of-letters.ensures (name_some c.args.name)))
