-- When no seam is looked for in a picture at the front of a space.
use Rattle.std.specs.Prelude.{Bool, cond, List, [], ◌∷◌, ◌++◌, ℕ, ◌+◌, ltb}
use Rattle.pictures.specs.declared.sizes.Size.{Size}
use Rattle.pictures.specs.Refusals.{Rule, ◌when◌}
use Rattle.pictures.specs.Pictures.{side_rules, picture_bytes, pixels}

-- The bytes after the picture: one to work in for each pixel, and one for its mark if it has one.
abbrev pub bytes_after : Size → Bool → ℕ
bytes_after z marked = cond marked (pixels z + pixels z) (pixels z)

-- Refused by 2 and 3, and by 8 where the seam's space is shorter than the seam, or the space than the picture and the bytes
-- after it.
abbrev pub find_space_rules : Size → Bool → ℕ → ℕ → List Rule
find_space_rules z marked space seam = side_rules z ++ (8 when ltb seam z.height ∷ 8 when ltb space (picture_bytes z + bytes_after z marked) ∷ [])
