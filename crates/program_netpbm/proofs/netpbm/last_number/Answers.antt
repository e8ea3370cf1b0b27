-- `program_netpbm::netpbm::last_number` meets its contract: after the number, the line end is left to read.
use Rattle.text_theory.specs.Readers.{give, after}
use Rattle.text_theory.specs.Files.{line_end}
use Rattle.text_read.proofs.ByteClasses.{told_line_end}
use Rattle.text_read.proofs.Onward.{refused, left_start, left_then, left_no_then, left_no_past, left-past-give}
use Rattle.program_netpbm.specs.Headers.{last_number}
use Rattle.program_netpbm.proofs.netpbm.last_number.Goals as goal

pub returns-in_err-n : goal.returns-in_err-n
unfolding last_number
returns-in_err-n c = refused c.from_residual.ensures (left_no_then (λ n. after line_end (give n)) left_start c.in_err-n.ensures)

pub returns-in_err-d : goal.returns-in_err-d
unfolding last_number
returns-in_err-d c =
    let number = left_then _ left_start c.in_ok-n.ensures in
    refused c.from_residual-in_err-d.ensures (left_no_past line_end _ number (told_line_end c.in_err-d.ensures))

pub returns : goal.returns
unfolding last_number
returns c =
    let number = left_then _ left_start c.in_ok-n.ensures in
    left-past-give line_end number (told_line_end c.in_ok-d.ensures)
