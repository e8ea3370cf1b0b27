-- The blank is taken, then the item; the text goes on from the next.
use mathlib.Core.Path.{◌∙◌}
use Rattle.text_print.proofs.Items.{no_blank, no_item, next_item, each_done}
use Rattle.text_print.proofs.texts.EachText.put.Goals as goal

pub returns-in_err-put : goal.returns-in_err-put
returns-in_err-put g c =
    c.from_residual.ensures ∙ no_blank _ _ _ _ c.loop-item.invariant c.loop-item-test.true c.item-item.is c.in_err-put.ensures

pub returns-in_err-after : goal.returns-in_err-after
returns-in_err-after g c =
    c.from_residual-in_err-after.ensures
    ∙ no_item _ _ _ _ c.loop-item.invariant c.loop-item-test.true c.item-item.is c.in_ok-put.ensures c.in_err-after.ensures

pub loop-item-preserved : goal.loop-item-preserved
loop-item-preserved g c = next_item _ _ _ _ c.loop-item.invariant c.loop-item-test.true c.item-item.is c.in_ok-put.ensures c.in_ok-after.ensures

pub returns : goal.returns
returns g c = each_done _ _ _ _ c.loop-item.invariant c.loop-item-test.false
