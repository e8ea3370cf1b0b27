use mathlib.Core.Path.{sym, ap, ◌∙◌}
use Rattle.text_print.proofs.PixelRows.{grey_row, rgb_row}
use Rattle.text_lengths.specs.Sinks.{puts}
use Rattle.text_print.proofs.lines.RowLineText.put.Goals as goal

pub returns-in-Grey : goal.returns-in-Grey
returns-in-Grey g c = c.put.ensures ∙ rw c.in-Grey.is (ap (puts g.S.Sink.takes c.args.sink) (sym (grey_row c.args.self.now.samples.now)))

pub returns-in-Rgb : goal.returns-in-Rgb
returns-in-Rgb g c = c.put-in-Rgb.ensures ∙ rw c.in-Rgb.is (ap (puts g.S.Sink.takes c.args.sink) (sym (rgb_row c.args.self.now.samples.now)))
