-- `text_read::cursor::Cursor::word` meets its contract: the class of the first byte says whether a number, a name or no word stands here.
use Rattle.text_read.proofs.ByteClasses.{digit_found, letter_byte, letter_digit, arm_no_digit, arm_no_letter}
use Rattle.text_read.proofs.Onward.{refused}
use Rattle.text_read.proofs.WordSteps.{told_word-end, told_word_number, told-word-no-number, told-word-name, told-word-no-name, told-word-other}
use Rattle.text_read.proofs.cursor.Cursor.word.Goals as goal

pub returns-in_err-class : goal.returns-in_err-class
returns-in_err-class c = refused c.from_residual.ensures (told_word-end c.in_err-class.ensures)

pub returns-in_err-n-in-Digit : goal.returns-in_err-n-in-Digit
returns-in_err-n-in-Digit c =
    let k = c.in_ok-class.ensures in
    refused c.from_residual-in_err-n-in-Digit.ensures
    (told-word-no-number k.0 (digit_found _ c.in-Digit.is k.1) c.in_err-n-in-Digit.ensures)

pub returns-in_err-name-in-Letter : goal.returns-in_err-name-in-Letter
returns-in_err-name-in-Letter c =
    let k = c.in_ok-class.ensures in
    refused c.from_residual-in_err-name-in-Letter.ensures
    (told-word-no-name k.0 (letter_digit _ (letter_byte _ c.in-Letter.is k.1).0) c.in_err-name-in-Letter.ensures)

pub returns-in_ok-n-in-Digit : goal.returns-in_ok-n-in-Digit
returns-in_ok-n-in-Digit c = told_word_number c.in_ok-n-in-Digit.ensures

pub returns-in_ok-name-in-Letter : goal.returns-in_ok-name-in-Letter
returns-in_ok-name-in-Letter c =
    let k = c.in_ok-class.ensures in
    told-word-name k.0 (letter_digit _ (letter_byte _ c.in-Letter.is k.1).0) c.in_ok-name-in-Letter.ensures

pub returns-in_default : goal.returns-in_default
returns-in_default c =
    let k = c.in_ok-class.ensures in
    told-word-other k.0 (arm_no_digit _ k.1 c.in_default.not-Digit) (arm_no_letter _ k.1 c.in_default.not-Letter)
