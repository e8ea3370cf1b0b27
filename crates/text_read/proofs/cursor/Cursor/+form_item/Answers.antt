-- The form reader and the item reader meet their contracts: the bytes left fall at each call, and the loop's state is `Counting`.
use borrow.Author.Tests.{eqb-true, eqb-false}
use Rattle.text_read.proofs.ByteClasses.{closing_byte, blank_byte, arm_no_closing, arm_no_blank, told_opening}
use Rattle.text_read.proofs.Onward.{refused, when}
use Rattle.text_rules.specs.declared.Items.TheVariants.{Samples, Numbers}
use Rattle.text_read.proofs.FormSteps.{samples_plain, numbers_plain, counting-next, counting-close, counting-broken, counting-other, counting-end, item_samples, item_numbers, item_none, item_no_sample, item_no_form, item_three, item_count}
use Rattle.text_read.proofs.cursor.Cursor.+form_item.Goals as goal

pub form-returns-in-Samples : goal.form-returns-in-Samples
form-returns-in-Samples t c = rw c.in-Samples.is (c.numbers.ensures Samples samples_plain)

pub form-returns-in-Numbers : goal.form-returns-in-Numbers
form-returns-in-Numbers t c = rw c.in-Numbers.is (c.numbers-in-Numbers.ensures Numbers numbers_plain)

pub form-returns-in-Closing : goal.form-returns-in-Closing
form-returns-in-Closing t c =
    let k = c.in-Some.ensures in counting-close c.loop-class.invariant k.0 (closing_byte c.in-Closing.is k.1)

pub form-returns-in_default-class : goal.form-returns-in_default-class
form-returns-in_default-class t c =
    let k = c.in-Some.ensures in
    counting-other c.loop-class.invariant k.0 (arm_no_closing _ k.1 c.in_default-class.not-Closing)
    (arm_no_blank _ k.1 c.in_default-class.not-Blank)

pub form-returns-in_err-after : goal.form-returns-in_err-after
form-returns-in_err-after t c =
    let k = c.in-Some.ensures in
    refused c.from_residual.ensures (counting-broken c.loop-class.invariant k.0 (blank_byte c.in-Blank.is k.1) c.in_err-after.ensures)

pub form-loop-class-preserved : goal.form-loop-class-preserved
form-loop-class-preserved t c =
    let k = c.in-Some.ensures in
    counting-next c.loop-class.invariant k.0 (blank_byte c.in-Blank.is k.1) c.in_ok-after.ensures

pub form-returns : goal.form-returns
form-returns t c = counting-end c.loop-class.invariant c.in_default.ensures

pub item-returns-in_err-a-in-Pixels : goal.item-returns-in_err-a-in-Pixels
item-returns-in_err-a-in-Pixels t c =
    refused c.from_residual.ensures (rw c.in-Pixels.is (item_none (told_opening c.in_err-a-in-Pixels.ensures)))

pub item-returns-in_err-b-in-Pixels : goal.item-returns-in_err-b-in-Pixels
item-returns-in_err-b-in-Pixels t c =
    refused c.from_residual-in_err-b-in-Pixels.ensures
    (rw c.in-Pixels.is (item_no_sample (told_opening c.in_ok-a-in-Pixels.ensures) c.in_err-b-in-Pixels.ensures))

pub item-returns-in_err-n-in-Pixels : goal.item-returns-in_err-n-in-Pixels
item-returns-in_err-n-in-Pixels t c =
    refused c.from_residual-in_err-n-in-Pixels.ensures
    (rw c.in-Pixels.is (item_no_form (told_opening c.in_ok-a-in-Pixels.ensures) c.in_ok-b-in-Pixels.ensures c.in_err-n-in-Pixels.ensures))

pub item-returns-in-Samples : goal.item-returns-in-Samples
item-returns-in-Samples t c = rw c.in-Samples.is (item_samples c.limited.ensures)

pub item-returns-in-Numbers : goal.item-returns-in-Numbers
item-returns-in-Numbers t c = rw c.in-Numbers.is (item_numbers c.limited-in-Numbers.ensures)

pub item-returns-in_ok-n-in-Pixels : goal.item-returns-in_ok-n-in-Pixels
item-returns-in_ok-n-in-Pixels t c =
    let o = told_opening c.in_ok-a-in-Pixels.ensures in
    let f = c.in_ok-n-in-Pixels.ensures in
    when _ c.then_some.ensures (λ e. rw c.in-Pixels.is (item_three o c.in_ok-b-in-Pixels.ensures f (eqb-true _ _ e)))
    (λ e. rw c.in-Pixels.is (item_count o c.in_ok-b-in-Pixels.ensures f (eqb-false _ _ e)))
