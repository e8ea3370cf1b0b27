-- `text_read::cursor::Cursor::after_line` meets its contract, by the place of the first line end.
use Rattle.std.proofs.Common.{arith, inl, inr}
use Rattle.text_read.proofs.Figures.{after_past, after_none, after_at}
use Rattle.text_read.proofs.cursor.Cursor.after_line.Goals as goal

pub returns-in_default : goal.returns-in_default
returns-in_default c = elim c.in_default.ensures.lookup.0 [ inl l ↦ after_past c.args.text.now c.args.self.at (omega arith) | inr l ↦ absurd (omega arith) ]

pub returns-in-Some-line_end : goal.returns-in-Some-line_end
returns-in-Some-line_end c = after_at c.args.text.now c.args.self.at c.in-Some.ensures.lookup.0.2 c.in-Some-line_end.ensures

pub returns-in-None : goal.returns-in-None
returns-in-None c = after_none c.args.text.now c.args.self.at c.in-Some.ensures.lookup.0.2 c.in-None.ensures
