-- `text_read::cursor::Cursor::name_word` meets its contract: a word that is a name is read; no other word is a name.
use Rattle.text_read.proofs.Onward.{refused}
use Rattle.text_read.proofs.WordSteps.{told_name, told_other_word, told_no_word}
use Rattle.text_read.proofs.cursor.Cursor.name_word.Goals as goal

pub returns-in_err-word : goal.returns-in_err-word
returns-in_err-word c = refused c.from_residual.ensures (told_no_word c.in_err-word.ensures)

pub returns-in_default : goal.returns-in_default
returns-in_default c = told_other_word c.in_ok-word.word c.in_default.not-Name c.in_ok-word.ensures

pub returns : goal.returns
returns c = told_name (rw c.in-Name.is at c.in_ok-word.ensures)
