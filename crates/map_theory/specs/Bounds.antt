-- Bounds for the arithmetic of the widths that a map shows, with room to spare: the greatest is half as much again as the original
-- one.
use Rattle.std.specs.Prelude.{ℕ, ◌+◌, ◌*◌, ◌/◌}
use Rattle.pictures.specs.Limits.{most_side}

abbrev pub most_width : ℕ
most_width = most_side + most_side / 2

abbrev pub most_shown_row : ℕ
most_shown_row = 6 * most_width

abbrev pub most_shown : ℕ
most_shown = most_side * most_shown_row
