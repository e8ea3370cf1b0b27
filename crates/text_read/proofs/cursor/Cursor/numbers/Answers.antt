-- `text_read::cursor::Cursor::numbers` meets its contract. The loop's state is `CountingNumbers`, and the bytes left fall.
use Rattle.std.proofs.Common.{arith}
use Rattle.text_read.proofs.ByteClasses.{closing_byte, blank_byte, arm_no_closing, arm_no_blank}
use Rattle.text_read.proofs.Onward.{refused}
use Rattle.text_read.proofs.FormSteps.{counting_first, counting-next, counting-close, counting-broken, counting-other, counting-end}
use Rattle.text_read.proofs.cursor.Cursor.numbers.Goals as goal

pub loop-class-init : goal.loop-class-init
loop-class-init c = counting_first _ _ _

pub returns-in-Closing : goal.returns-in-Closing
returns-in-Closing c = let k = c.in-Some.ensures in λ w e. counting-close (c.loop-class.invariant.counting w e) k.0 (closing_byte c.in-Closing.is k.1)

pub returns-in_default-class : goal.returns-in_default-class
returns-in_default-class c =
    let k = c.in-Some.ensures in
    λ w e.
    counting-other (c.loop-class.invariant.counting w e) k.0 (arm_no_closing _ k.1 c.in_default-class.not-Closing)
    (arm_no_blank _ k.1 c.in_default-class.not-Blank)

pub returns-in_err-after : goal.returns-in_err-after
returns-in_err-after c =
    let k = c.in-Some.ensures in
    λ w e.
    refused c.from_residual.ensures
    (counting-broken (c.loop-class.invariant.counting w e) k.0 (blank_byte c.in-Blank.is k.1) (rw (← e) at c.in_err-after.ensures))

pub loop-class-preserved : goal.loop-class-preserved
loop-class-preserved c =
    let k = c.in-Some.ensures in
    record {
      counting = λ w e. counting-next (c.loop-class.invariant.counting w e) k.0 (blank_byte c.in-Blank.is k.1) (rw (← e) at c.in_ok-after.ensures);
      few = omega (arith, c.loop-class.invariant.few, c.in_ok-after.ensures.moved.0);
    }

pub returns : goal.returns
returns c = λ w e. counting-end (c.loop-class.invariant.counting w e) c.in_default.ensures
