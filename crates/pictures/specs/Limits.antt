-- Bounds for the arithmetic, with room to spare: no side, row or picture that is served is larger, at six bytes a pixel. What
-- is served is decided by `largest_side` alone.
use Rattle.std.specs.Prelude.{ℕ, ◌*◌}

abbrev pub most_side : ℕ
most_side = 512

abbrev pub most_row : ℕ
most_row = 6 * most_side

abbrev pub most_pixels : ℕ
most_pixels = most_side * most_side

abbrev pub most_picture : ℕ
most_picture = 6 * most_pixels
