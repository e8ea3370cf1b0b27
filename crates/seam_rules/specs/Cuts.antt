-- When finding, cutting and closing up a seam of a lent picture is refused.
use Rattle.std.specs.Prelude.{Bool, not, List, [], ◌∷◌, ◌++◌, ℕ, eqb, leb, ltb, length, replicate}
use Rattle.pictures.specs.declared.sizes.Size.{Size}
use Rattle.pictures.specs.Refusals.{◌when◌, Rule, worked}
use Rattle.pictures.specs.Pictures.{picture_bytes, size_rules, pixels, work_bytes}
use Rattle.seam_rules.specs.declared.answers.Axis.{Axis}
use Rattle.seam_rules.specs.Axes.{turned_size}

-- "After 1 to 8 all buffers are unchanged. After 9 and every higher number .. work space is zero, as after success."
abbrev pub cleared : ℕ → List ℕ → List ℕ
cleared n work = worked n (replicate (length work) 0) work

-- What 8 says of spaces of these lengths for a seam along the axis and for the work: as long as the seam, and 32 bytes a
-- pixel.
abbrev pub room_rules : Axis → Size → ℕ → ℕ → List Rule
room_rules x z seam work = 8 when ltb seam (turned_size x z).height ∷ 8 when ltb work (work_bytes z) ∷ []

-- Finding is refused as the picture is, or when a space is too short.
abbrev pub find_rules : Axis → Size → ℕ → ℕ → ℕ → List Rule
find_rules x z bytes seam work = size_rules z bytes ++ room_rules x z seam work

-- Whether only one column, or row, is left for a seam along the axis: 13 refuses its cut.
abbrev pub last_along : Axis → Size → Bool
last_along x z = eqb (turned_size x z).width 1

abbrev pub last_rules : Axis → Size → List Rule
last_rules x z = 13 when last_along x z ∷ []

-- Cutting is also refused by 13.
abbrev pub cut_rules : Axis → Size → ℕ → ℕ → ℕ → List Rule
cut_rules x z bytes seam work = find_rules x z bytes seam work ++ last_rules x z

-- Refused by 4 unless there is one mark for each pixel.
abbrev pub mark_length_rules : Size → ℕ → List Rule
mark_length_rules z marks = 4 when not (eqb marks (pixels z)) ∷ []

-- 5 refuses "a mark over 2".
abbrev pub mark_allowed : ℕ → Bool
mark_allowed mark = leb mark 2

-- Closing up along the axis is refused as the picture is, by 4 where the seam isn't as long as the picture is along the axis,
-- and by 8 where the work space is shorter than the picture.
abbrev pub close_along_lengths : Axis → Size → ℕ → ℕ → ℕ → List Rule
close_along_lengths x z bytes seam work =
    size_rules z bytes ++ (4 when not (eqb seam (turned_size x z).height) ∷ 8 when ltb work (picture_bytes z) ∷ [])
