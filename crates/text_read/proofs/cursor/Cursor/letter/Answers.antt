-- `text_read::cursor::Cursor::letter` meets its contract: the byte here is that letter, or not; of another class it isn't.
use mathlib.Core.Bool.{false≢true}
use Rattle.std.proofs.Common.{sym, ap, ◌∙◌}
use borrow.Author.Tests.{eqb-true, eqb-false}
use Rattle.text_read.specs.Answers.{is_letter}
use Rattle.text_read.proofs.ByteClasses.{letter_byte, arm_no_letter}
use Rattle.text_read.proofs.Letters.{letter_end, letter-other, letter_one}
use Rattle.text_read.proofs.Onward.{refused_past, when_past}
use Rattle.text_read.proofs.cursor.Cursor.letter.Goals as goal

pub returns-in_err-found : goal.returns-in_err-found
returns-in_err-found c = refused_past c.from_residual.ensures (letter_end _ c.in_err-found.ensures)

pub returns-in_default : goal.returns-in_default
returns-in_default c =
    let k = c.in_ok-found.ensures in
    letter-other _ k.0 (λ e. false≢true (sym (arm_no_letter _ k.1 c.in_default.not-Letter) ∙ ap is_letter (sym e) ∙ c.requires))

pub returns : goal.returns
returns c =
    let k = c.in_ok-found.ensures in
    let here = (letter_byte _ c.in-Letter.is k.1).1 in
    when_past _ c.then_some.ensures
    (λ e. letter_one _ k.0 (sym (eqb-true _ _ e) ∙ here))
    (λ e. letter-other _ k.0 (λ f. eqb-false _ _ e (here ∙ sym f)))
