-- A line takes what it leaves of the room less; so many take as many times that, and none is left where they don't fit.
use mathlib.Core.Path.{sym, ap, ◌∙◌}
use native.Mathlib.Omega.{arith}
use Rattle.std.proofs.Common.{◌*◌}
use Rattle.text_theory.specs.Files.{map_text}
use Rattle.text_lengths.specs.Rooms.{less}
use Rattle.text_lengths.proofs.Rooms.{less_none, less_is}
use Rattle.file_build.proofs.Fits.{lines_none, taken}
use Rattle.file_build.proofs.fitting.lines_left.Goals as goal

pub returns-in_err-after : goal.returns-in_err-after
unfolding map_text
returns-in_err-after c = c.from_residual.ensures ∙ lines_none c.args.room _ c.args.count c.requires c.in_err-after.ensures

pub overflow_sub-line : goal.overflow_sub-line
overflow_sub-line c = (taken c.in_ok-after.ensures).0

pub returns-in_err-checked_mul : goal.returns-in_err-checked_mul
unfolding map_text
returns-in_err-checked_mul c =
    c.from_residual-in_err-checked_mul.ensures
    ∙ sym (less_none c.args.room _ (omega (arith, rw (taken c.in_ok-after.ensures).1 at c.in_err-checked_mul.ensures, c.ranges.room.fits)))

pub returns : goal.returns
unfolding map_text
returns c =
    less_is c.checked_sub.result c.args.room c.in_ok-checked_mul.field-0 c.checked_sub.ensures
    ∙ ap (less c.args.room) (c.in_ok-checked_mul.ensures.1 ∙ ap (c.args.count *◌) (taken c.in_ok-after.ensures).1)
