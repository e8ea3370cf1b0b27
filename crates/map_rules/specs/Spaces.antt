-- The layout of a work space for a picture and its maps, and when it is refused.
use Rattle.std.specs.Prelude.{List, [], ◌∷◌, ◌++◌, ℕ, ◌*◌, leb, ltb}
use Rattle.pictures.specs.declared.sizes.Size.{Size}
use Rattle.pictures.specs.Refusals.{Rule, ◌when◌}
use Rattle.pictures.specs.Pictures.{side_rules, pixels, work_bytes}

-- Bytes of a map: two a pixel.
abbrev pub map_bytes : Size → ℕ
map_bytes z = 2 * pixels z

-- The maps stand in the last four of the 32 bytes for each pixel: the one that is built, and after it the recorded one. The picture
-- and what building takes stand before them.
abbrev pub map_at : Size → ℕ
map_at z = 28 * pixels z

abbrev pub recorded_at : Size → ℕ
recorded_at z = 30 * pixels z

-- Refused by 2 and 3, by 6 where the depth isn't below the width, and by 8 where the work space is too short.
abbrev pub map_space_rules : Size → ℕ → ℕ → List Rule
map_space_rules z depth space = side_rules z ++ (6 when leb z.width depth ∷ 8 when ltb space (work_bytes z) ∷ [])
