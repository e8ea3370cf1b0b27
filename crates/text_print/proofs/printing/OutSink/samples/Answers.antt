-- The blank is taken, then the sample; the text goes on from the next.
use mathlib.Core.Path.{◌∙◌}
use Rattle.std.proofs.Common.{get_or}
use Rattle.text_print.specs.Outs.{out_takes}
use Rattle.text_print.proofs.Items.{no_blank, no_item, next_item, each_done, same_at, blank_taken}
use Rattle.text_print.proofs.printing.OutSink.samples.Goals as goal

pub returns-in_err-byte : goal.returns-in_err-byte
returns-in_err-byte c =
    let l = c.loop-sample in
    let xs = c.args.samples.now in
    c.from_residual.ensures
    ∙ no_blank _ _ _ _ l.invariant c.loop-sample-test.true (same_at xs l.sample-index 0 (get_or xs l.sample-index 0) c.loop-sample-test.true)
    (c.in_err-byte.ensures ∙ blank_taken out_takes l.after)

pub returns-in_err-after : goal.returns-in_err-after
returns-in_err-after c =
    let l = c.loop-sample in
    let xs = c.args.samples.now in
    c.from_residual-in_err-after.ensures
    ∙ no_item _ _ _ _ l.invariant c.loop-sample-test.true (same_at xs l.sample-index 0 (get_or xs l.sample-index 0) c.loop-sample-test.true)
    (c.in_ok-byte.ensures ∙ blank_taken out_takes l.after) c.in_err-after.ensures

pub loop-sample-preserved : goal.loop-sample-preserved
loop-sample-preserved c =
    let l = c.loop-sample in
    let xs = c.args.samples.now in
    next_item _ _ _ _ l.invariant c.loop-sample-test.true (same_at xs l.sample-index 0 (get_or xs l.sample-index 0) c.loop-sample-test.true)
    (c.in_ok-byte.ensures ∙ blank_taken out_takes l.after) c.in_ok-after.ensures

pub returns : goal.returns
returns c = each_done _ _ _ _ c.loop-sample.invariant c.loop-sample-test.false
