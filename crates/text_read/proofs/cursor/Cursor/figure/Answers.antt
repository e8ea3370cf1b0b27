-- `text_read::cursor::Cursor::figure` meets its contract. The invariant is `Skipping`: no digit was passed. What falls is the number of
-- bytes left.
use Rattle.text_read.proofs.Figures.{skipping_more, skipping_digit, skipping_end}
use Rattle.text_read.proofs.cursor.Cursor.figure.Goals as goal

pub returns-in-Some-digit_of : goal.returns-in-Some-digit_of
returns-in-Some-digit_of c =
    let k = c.in-Some.ensures.lookup.3 in
    skipping_digit c.loop-byte.invariant k.0 (rw (k.1 0) at c.in-Some-digit_of.ensures.0) c.from_digit.ensures

pub loop-byte-preserved : goal.loop-byte-preserved
loop-byte-preserved c =
    let k = c.in-Some.ensures.lookup.3 in
    skipping_more c.loop-byte.invariant k.0 (rw (k.1 0) at c.in_default-digit_of.ensures)

pub returns : goal.returns
returns c = skipping_end c.loop-byte.invariant c.in_default.ensures.lookup.3
