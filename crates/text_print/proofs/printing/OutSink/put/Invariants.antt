-- What is left of the text are the bytes from the index on.
use Rattle.std.proofs.Common.{◌≡◌, drop}
use Rattle.text_lengths.specs.Sinks.{puts}
use Rattle.text_print.specs.Outs.{out_takes}
use Rattle.text_print.proofs.printing.OutSink.put.Given as goal

abbrev pub invariant-loop-b : goal.invariant-loop-b
invariant-loop-b l = puts out_takes l.fn.self l.bytes ≡ puts out_takes l.after (drop l.b-index l.bytes)
