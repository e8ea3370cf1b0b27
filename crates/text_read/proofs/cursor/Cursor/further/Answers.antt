-- `text_read::cursor::Cursor::further` meets its contract. The invariant is `Reading`: n is what the digits passed so far say.
use Rattle.std.proofs.Common.{arith}
use Rattle.text_read.proofs.DigitSteps.{digit_is, further_digit, further_end, further_stop, reading-over}
use Rattle.text_read.proofs.cursor.Cursor.further.Goals as goal

pub returns-in_default : goal.returns-in_default
returns-in_default c =
    rw c.judged.ensures (further_stop _ _ c.loop-i.invariant c.loop-i-test.true c.in_default.ensures)

pub returns-then-n-gt-LARGEST_NUMBER : goal.returns-then-n-gt-LARGEST_NUMBER
returns-then-n-gt-LARGEST_NUMBER c = reading-over c.loop-i.invariant c.if-n-gt-LARGEST_NUMBER.true

pub loop-i-preserved : goal.loop-i-preserved
loop-i-preserved c =
    further_digit _ _ c.loop-i.invariant c.loop-i-test.true (omega arith) c.if-n-gt-LARGEST_NUMBER.false (digit_is c.in-Some.ensures)

pub returns : goal.returns
returns c = rw c.judged-2.ensures (further_end _ _ c.loop-i.invariant c.requires.inside c.loop-i-test.false)
