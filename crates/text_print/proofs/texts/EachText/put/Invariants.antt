-- What is left of the text is that of the items from the index on.
use Rattle.std.proofs.Common.{◌≡◌, drop}
use Rattle.text_theory.specs.Files.{blank, each}
use Rattle.text_lengths.specs.Sinks.{puts}
use Rattle.text_print.proofs.texts.EachText.put.Given as goal

abbrev pub invariant-loop-item : goal.invariant-loop-item
invariant-loop-item g l = puts g.S.Sink.takes l.fn.sink (each blank g.T.Text.text l.self.items.now) ≡ puts g.S.Sink.takes l.after (each blank g.T.Text.text (drop l.item-index l.self.items.now))
