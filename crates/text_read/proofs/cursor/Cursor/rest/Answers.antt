-- `text_read::cursor::Cursor::rest` meets its contract: the form, then the line end.
use Rattle.text_theory.specs.Files.{line_end}
use Rattle.text_read.specs.Answers.{line_rest}
use Rattle.text_read.proofs.ByteClasses.{told_line_end}
use Rattle.text_read.proofs.Onward.{refused, left_start, left_no_past, left-past-give, left_then, left_no_then}
use Rattle.text_read.proofs.cursor.Cursor.rest.Goals as goal

pub returns-in_err-n : goal.returns-in_err-n
unfolding line_rest
returns-in_err-n c = refused c.from_residual.ensures (left_no_then _ left_start c.in_err-n.ensures)

pub returns-in_err-d : goal.returns-in_err-d
unfolding line_rest
returns-in_err-d c =
    refused c.from_residual-in_err-d.ensures
    (left_no_past line_end _ (left_then _ left_start c.in_ok-n.ensures) (told_line_end c.in_err-d.ensures))

pub returns : goal.returns
unfolding line_rest
returns c = left-past-give line_end (left_then _ left_start c.in_ok-n.ensures) (told_line_end c.in_ok-d.ensures)
