use mathlib.Core.Path.{sym, ◌∙◌}
use native.Mathlib.Omega.{arith}
use Rattle.text_lengths.proofs.Rooms.{room_some, room_none}
use Rattle.text_lengths.proofs.RoomSink.put.Goals as goal

pub returns-in_err-left : goal.returns-in_err-left
returns-in_err-left c = c.from_residual.ensures ∙ sym (room_none c.args.bytes.now c.args.self.left (omega (arith, c.in_err-left.ensures)))

pub returns : goal.returns
returns c = let e = c.in_ok-left.ensures in rw e.1 (sym (room_some c.args.bytes.now c.args.self.left e.0))
