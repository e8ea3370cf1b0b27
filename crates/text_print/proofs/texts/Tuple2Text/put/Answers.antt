use mathlib.Core.Path.{sym, ◌∙◌}
use Rattle.text_lengths.proofs.Sinks.{further, no_further}
use Rattle.text_print.proofs.texts.Tuple2Text.put.Goals as goal

pub returns-in_err-put : goal.returns-in_err-put
returns-in_err-put g c = c.from_residual.ensures ∙ no_further g.S.Sink.takes c.args.sink _ _ c.in_err-put.ensures

pub returns : goal.returns
returns g c = c.put-2.ensures ∙ sym (further g.S.Sink.takes c.args.sink _ _ c.in_ok-put.ensures)
