-- When the operations that move a picture's bytes are refused, in terms of numbers and of a seam's columns.
use Rattle.std.specs.Prelude.{Bool, false, not, ◌&&◌, ◌||◌, List, [], ◌∷◌, ◌++◌, ℕ, ◌+◌, ◌*◌, eqb, leb, ltb}
use Rattle.pictures.specs.declared.sizes.Size.{Size}
use Rattle.pictures.specs.Refusals.{Rule, ◌when◌}
use Rattle.pictures.specs.Pictures.{pixel_bytes, picture_bytes, size_rules}

-- When an exchange is refused: as the picture is, and where the space is shorter than the picture.
abbrev pub exchange_rules : Size → ℕ → ℕ → List Rule
exchange_rules z bytes space = size_rules z bytes ++ (8 when ltb space (picture_bytes z) ∷ [])

-- When a column isn't given: as the picture is refused, where the space is shorter than the column, and where the column
-- is outside the picture.
abbrev pub column_rules : Size → ℕ → ℕ → ℕ → List Rule
column_rules z bytes c space = size_rules z bytes ++ (8 when ltb space (z.height * pixel_bytes z.kind) ∷ 10 when leb z.width c ∷ [])

-- When a seam isn't read: as the picture is refused, and where the seam hasn't one column for each row.
abbrev pub close_length_rules : Size → ℕ → ℕ → List Rule
close_length_rules z bytes columns = size_rules z bytes ++ (4 when not (eqb columns z.height) ∷ [])

-- When a seam that was read isn't closed up: where one of its columns is outside the picture, which `beyond`
-- says, and at the last column.
abbrev pub close_column_rules : ℕ → Bool → List Rule
close_column_rules w beyond = 10 when beyond ∷ 13 when eqb w 1 ∷ []

-- Whether some column of the seam isn't below w.
unfoldable pub outside : ℕ → List ℕ → Bool
outside w [] = false
outside w (c ∷ s) = leb w c || outside w s

-- Whether n bytes at `from` and n bytes at `to` lie inside a space of `space` bytes and don't overlap.
abbrev pub apart_in : ℕ → ℕ → ℕ → ℕ → Bool
apart_in space from to n = leb (from + n) space && (leb (to + n) space && (leb (from + n) to || leb (to + n) from))
