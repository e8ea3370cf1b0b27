-- `text_lengths::RoomSink::samples` meets its contract: a room takes a text by its length.
use mathlib.Core.Path.{◌∙◌}
use Rattle.text_theory.specs.Decimal.{digits}
use Rattle.text_theory.specs.Files.{blank, each}
use Rattle.text_lengths.proofs.Rooms.{room_left, room_short}
use Rattle.text_lengths.proofs.RoomSink.samples.Goals as goal

pub returns-in_err-left : goal.returns-in_err-left
returns-in_err-left c = c.from_residual.ensures ∙ room_short c.args.self.left (each blank digits c.args.samples.now) c.in_err-left.ensures

pub returns : goal.returns
returns c = room_left c.args.self.left (each blank digits c.args.samples.now) c.in_ok-left.left c.in_ok-left.ensures
