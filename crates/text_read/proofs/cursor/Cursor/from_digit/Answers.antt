-- `text_read::cursor::Cursor::from_digit` meets its contract: each digit passed is one more of `Reading`, and no digit ends the number.
use Rattle.pictures.specs.Numbers.{largest_number}
use Rattle.text_read.proofs.DigitSteps.{number_zero, one_digit, two_digits, three-read, three_digits}
use Rattle.text_read.proofs.cursor.Cursor.from_digit.Goals as goal

pub returns-then-lone : goal.returns-then-lone
returns-then-lone c = number_zero largest_number c.requires c.if-lone.true

pub returns-in_default : goal.returns-in_default
returns-in_default c = one_digit c.requires c.if-lone.false c.in_default.ensures

pub returns-in_default-digit : goal.returns-in_default-digit
returns-in_default-digit c = two_digits c.requires c.if-lone.false c.in-Some.ensures c.in_default-digit.ensures

pub further-requires : goal.further-requires
further-requires c = three-read c.requires c.if-lone.false c.in-Some.ensures c.in-Some-digit.ensures

pub returns-in-None : goal.returns-in-None
returns-in-None c = three_digits c.requires c.if-lone.false c.in-Some.ensures c.in-Some-digit.ensures c.in-None.ensures
