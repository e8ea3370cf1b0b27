use mathlib.Core.Path.{◌∙◌}
use Rattle.text_lengths.proofs.Rooms.{less_puts, none_puts}
use Rattle.text_print.proofs.printing.left_after.Goals as goal

pub returns-in_err-after : goal.returns-in_err-after
returns-in_err-after g c = c.from_residual.ensures ∙ none_puts c.args.room (g.T.Text.text c.args.text.now) c.in_err-after.ensures

pub returns : goal.returns
returns g c = less_puts c.args.room (g.T.Text.text c.args.text.now) c.in_ok-after.after c.in_ok-after.ensures
