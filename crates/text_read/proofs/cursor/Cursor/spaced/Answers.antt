-- `text_read::cursor::Cursor::spaced` meets its contract: the blank, then the number.
use Rattle.text_theory.specs.Files.{blank}
use Rattle.text_read.proofs.ByteClasses.{told_blank}
use Rattle.text_read.proofs.Onward.{refused, left_start, left-past, left_no_past, left_tail}
use Rattle.text_read.proofs.cursor.Cursor.spaced.Goals as goal

pub returns-in_err-c : goal.returns-in_err-c
returns-in_err-c c = refused c.from_residual.ensures (left_no_past blank _ left_start (told_blank c.in_err-c.ensures))

pub returns : goal.returns
returns c = left_tail _ (left-past blank left_start (told_blank c.in_ok-c.ensures)) c.number.ensures
