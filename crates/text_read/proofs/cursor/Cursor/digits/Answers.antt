-- `text_read::cursor::Cursor::digits` meets its contract: a number begins with the digit that stands here.
use Rattle.pictures.specs.Numbers.{largest_number}
use Rattle.text_read.proofs.DigitSteps.{number_missing}
use Rattle.text_read.proofs.Onward.{refused}
use Rattle.text_read.proofs.cursor.Cursor.digits.Goals as goal

pub returns-in_err-first : goal.returns-in_err-first
returns-in_err-first c = refused c.from_residual.ensures (number_missing largest_number c.in_err-first.ensures)
