use mathlib.Core.Path.{sym, ◌∙◌}
use native.Mathlib.Omega.{arith}
use Rattle.text_theory.specs.Decimal.{digits}
use Rattle.text_lengths.proofs.Rooms.{room_some, room_none}
use Rattle.text_lengths.proofs.RoomSink.number.Goals as goal

pub returns-in_err-left : goal.returns-in_err-left
returns-in_err-left c = c.from_residual.ensures ∙ sym (room_none (digits c.args.n) c.args.self.left (omega (arith, c.digit_count.ensures.0, c.in_err-left.ensures)))

pub returns : goal.returns
returns c =
    let e = c.in_ok-left.ensures in
    let d = c.digit_count.ensures.0 in
    rw (e.1, d) (sym (room_some (digits c.args.n) c.args.self.left (omega (arith, d, e.0))))
