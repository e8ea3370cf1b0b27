-- `text_read::cursor::Cursor::limited` meets its contract: the number that stands here is over the limit or not.
use borrow.Author.Tests.{leb-true, leb-false}
use Rattle.text_read.proofs.Onward.{refused, when}
use Rattle.text_read.proofs.WordSteps.{limited_number, limited-over, limited_none}
use Rattle.text_read.proofs.cursor.Cursor.limited.Goals as goal

pub returns-in_err-n : goal.returns-in_err-n
returns-in_err-n c = refused c.from_residual.ensures (limited_none _ c.requires c.in_err-n.ensures)

pub returns : goal.returns
returns c =
    let t = c.in_ok-n.ensures in
    when _ c.then_some.ensures (λ e. limited_number _ c.requires t (leb-true _ _ e)) (λ e. limited-over _ c.requires t (leb-false _ _ e))
