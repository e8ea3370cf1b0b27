-- `text_read::cursor::Cursor::past` meets its contract: the class of the byte here has the number of the class asked for, or not.
use Rattle.std.proofs.Common.{sym, ap, ◌∙◌}
use borrow.Author.Tests.{eqb-true, eqb-false}
use Rattle.text_read.specs.Answers.{class_number}
use Rattle.text_read.proofs.ByteClasses.{past_end, past-other, past_one}
use Rattle.text_read.proofs.Onward.{refused_past, when_past}
use Rattle.text_read.proofs.cursor.Cursor.past.Goals as goal

pub returns-in_err-found : goal.returns-in_err-found
returns-in_err-found c = refused_past c.from_residual.ensures (past_end _ c.in_err-found.ensures)

pub returns : goal.returns
returns c =
    let k = c.in_ok-found.ensures in
    let here = c.class_number.ensures ∙ ap class_number k.1 in
    when_past _ c.then_some.ensures
    (λ e. past_one _ k.0 (sym here ∙ eqb-true _ _ e ∙ c.class_number-2.ensures))
    (λ e. past-other _ k.0 (λ f. eqb-false _ _ e (here ∙ f ∙ sym c.class_number-2.ensures)))
