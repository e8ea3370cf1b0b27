-- `text_lengths::RoomSink::pixels` meets its contract: each pixel has two brackets besides its samples and the blanks before them.
use mathlib.Core.Path.{◌≡◌, sym, ap, ◌∙◌}
use native.Mathlib.Omega.{arith}
use Rattle.std.specs.Prelude.{List, ℕ, length, take, ◌*◌, ◌/◌, ◌-◌, ◌≤◌}
use Rattle.pictures.specs.declared.sizes.Kind.TheVariants.{Rgb}
use Rattle.text_theory.specs.Decimal.{digits}
use Rattle.text_theory.specs.Files.{blank, each, pixel_text}
use Rattle.text_lengths.specs.Rooms.{less, pixels_of}
use Rattle.text_lengths.proofs.Rooms.{less_none, less_after, room_left, room_short}
use Rattle.text_lengths.proofs.Counted.{row_pixels-length}
use Rattle.text_lengths.proofs.RoomSink.pixels.Goals as goal

abbrev text : List ℕ → List ℕ
text b = each blank (pixel_text Rgb) (pixels_of Rgb b)

-- What the room leaves of the samples is what it leaves of the pixels.
same : (b : List ℕ) (r t : ℕ) → 2 * (length b / 3) ≤ r → t ≡ r - 2 * (length b / 3)
    → less t (length (each blank digits (take (3 * (length b / 3)) b))) ≡ less r (length (text b))
same b r t h e = less_after r t (2 * (length b / 3)) _ h e ∙ ap (less r) (sym (row_pixels-length b))

pub returns-in_err-room : goal.returns-in_err-room
returns-in_err-room c =
    let b = c.args.samples.now in
    c.from_residual.ensures
    ∙ room_short c.args.self.left (text b) (sym (less_none c.args.self.left _ (omega (arith, row_pixels-length b, c.in_err-room.ensures))))

pub returns-in_err-left : goal.returns-in_err-left
returns-in_err-left c =
    let b = c.args.samples.now in
    let room = c.in_ok-room.ensures in
    c.from_residual-in_err-left.ensures
    ∙ room_short c.args.self.left (text b) (c.in_err-left.ensures ∙ same b c.args.self.left c.in_ok-room.room room.0 room.1)

pub returns : goal.returns
returns c =
    let b = c.args.samples.now in
    let room = c.in_ok-room.ensures in
    room_left c.args.self.left (text b) c.in_ok-left.left (c.in_ok-left.ensures ∙ same b c.args.self.left c.in_ok-room.room room.0 room.1)
