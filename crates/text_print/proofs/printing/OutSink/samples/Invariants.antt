-- What is left of the text is that of the samples from the index on.
use Rattle.std.proofs.Common.{◌≡◌, drop}
use Rattle.text_theory.specs.Decimal.{digits}
use Rattle.text_theory.specs.Files.{blank, each}
use Rattle.text_lengths.specs.Sinks.{puts}
use Rattle.text_print.specs.Outs.{out_takes}
use Rattle.text_print.proofs.printing.OutSink.samples.Given as goal

abbrev pub invariant-loop-sample : goal.invariant-loop-sample
invariant-loop-sample l = puts out_takes l.fn.self (each blank digits l.samples) ≡ puts out_takes l.after (each blank digits (drop l.sample-index l.samples))
