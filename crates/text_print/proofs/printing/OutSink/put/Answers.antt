use mathlib.Core.Path.{sym, ap, ◌∙◌}
use Rattle.std.proofs.Common.{drop_of_length-le}
use Rattle.text_lengths.specs.Sinks.{puts}
use Rattle.text_lengths.proofs.Sinks.{puts_none}
use Rattle.text_print.specs.Outs.{out_takes}
use Rattle.text_print.proofs.Written.{byte_taken, byte_refused}
use Rattle.text_print.proofs.printing.OutSink.put.Goals as goal

pub returns-in_err-after : goal.returns-in_err-after
returns-in_err-after c =
    c.from_residual.ensures ∙ byte_refused out_takes c.loop-b.after c.args.bytes.now c.loop-b.b-index c.loop-b-test.true c.in_err-after.ensures ∙ sym c.loop-b.invariant

pub loop-b-preserved : goal.loop-b-preserved
loop-b-preserved c = c.loop-b.invariant ∙ byte_taken out_takes c.loop-b.after c.args.bytes.now c.loop-b.b-index c.loop-b-test.true c.in_ok-after.ensures

pub returns : goal.returns
returns c =
    sym (c.loop-b.invariant ∙ ap (puts out_takes c.loop-b.after) (drop_of_length-le c.args.bytes.now c.loop-b-test.false) ∙ puts_none out_takes c.loop-b.after)
