-- What is left of a room.
use Rattle.std.specs.Prelude.{Option, None, Some, cond, List, [], ◌∷◌, ℕ, ◌-◌, ◌/◌, leb, ltb, length}
use Rattle.pictures.specs.declared.sizes.Kind.{Kind}
use Rattle.pictures.specs.Refusals.{Rule, ◌when◌}
use Rattle.pictures.specs.Pictures.{pixel_bytes, row_in}
use Rattle.text_lengths.specs.declared.Room.{Room}

-- The room after a byte; none where nothing is left.
abbrev pub room_takes : Room → ℕ → Option Room
room_takes r b = cond (leb 1 r.left) (Some (record { left = r.left - 1 })) None

-- The room less n; none where it is shorter.
unfoldable pub less : ℕ → ℕ → Option ℕ
less room n = cond (leb n room) (Some (room - n)) None

-- The number by which a text is refused, from what it leaves of a room: 8, "output space shorter than the answer", where it doesn't
-- fit, and else 0; and the rule that gives it.
abbrev pub left_number : Option ℕ → ℕ
left_number None = 8
left_number (Some n) = 0

abbrev pub left_rules : ℕ → ℕ → List Rule
left_rules room n = 8 when ltb room n ∷ []

-- The pixels of a row's bytes.
abbrev pub pixels_of : Kind → List ℕ → List (List ℕ)
pixels_of k b = row_in k (length b / pixel_bytes k) b
