-- `text_read::cursor::Cursor::close` meets its contract: the bracket, then the line end.
use Rattle.std.proofs.Common.{ℕ}
use Rattle.text_theory.specs.Readers.{give, after}
use Rattle.text_theory.specs.Files.{closing, line_end}
use Rattle.text_read.proofs.ByteClasses.{told_closing, told_line_end}
use Rattle.text_read.proofs.Onward.{refused_past, left_start, left_as, left-past, left_no_past, left_tail, after-closed}
use Rattle.text_read.proofs.cursor.Cursor.close.Goals as goal

pub returns-in_err-c : goal.returns-in_err-c
returns-in_err-c c =
    refused_past c.from_residual.ensures
    (left_no_past closing (after line_end (give 0)) (left_as (after-closed (give 0)) left_start) (told_closing c.in_err-c.ensures))

pub returns : goal.returns
returns c =
    let L = left-past {B = ℕ} closing (left_as (after-closed (give 0)) left_start) (told_closing c.in_ok-c.ensures) in
    left_tail _ L (told_line_end c.past-2.ensures)
