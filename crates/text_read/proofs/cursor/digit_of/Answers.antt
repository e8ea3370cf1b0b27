-- `text_read::cursor::digit_of` meets its contract: the range that its arm matches is that of the digits.
use Rattle.std.proofs.Common.{refl, arith, inl, inr}
use Rattle.text_theory.proofs.Decimals.{is_digit_lem}
use Rattle.text_read.proofs.DigitSteps.{no_digit}
use Rattle.text_read.proofs.cursor.digit_of.Goals as goal

pub returns-in-48-to-57 : goal.returns-in-48-to-57
returns-in-48-to-57 c = (is_digit_lem _ (omega arith) (omega arith), refl)

pub returns-in_default : goal.returns-in_default
returns-in_default c = no_digit _ (inl (omega arith))

pub returns-in_default-2 : goal.returns-in_default-2
returns-in_default-2 c = no_digit _ (inr (omega arith))
