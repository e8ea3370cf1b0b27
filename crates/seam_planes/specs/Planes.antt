-- Planes: what is kept of each pixel of a picture that is carved in a space. A plane has a row for each of the picture's rows, and
-- the rows stay where they are: what counts of each are its first w elements, w being the width that is left.
use Rattle.std.specs.Prelude.{◌≡◌, false, List, map, ℕ, ◌*◌, ◌≤◌, length, take}
use Rattle.grids.specs.Rows.{rows_of}
use Rattle.pictures.specs.Limits.{most_side}
use Rattle.pictures.specs.declared.sizes.Size.{Size}
use Rattle.pictures.specs.Refusals.{refusal}
use Rattle.pictures.specs.Pictures.{side_rules, picture_bytes, pixels}
use Rattle.pictures.specs.Numbers.{numbers_in}
use Rattle.seam_bounds.specs.Moves.{outside}

-- The first w elements of each row.
abbrev pub fronts : {A : Type 0} → ℕ → List (List A) → List (List A)
fronts w p = map (take w) p

-- The numbers of a plane of two bytes an element, h rows of m.
abbrev pub numbers_of : ℕ → ℕ → List ℕ → List (List ℕ)
numbers_of m h b = rows_of m h (numbers_in b)

-- The bytes of a plane of numbers, one for each pixel of a picture of this size.
abbrev pub plane_bytes : Size → ℕ
plane_bytes z = 2 * pixels z

-- A plane of numbers that is as long as its rows of m, of which w count, and a seam inside these.
pub record NumbersSeam (m w : ℕ) (s : List ℕ) (bytes : ℕ) : Type 0 where
  pub narrow : m ≤ most_side
  pub low : length s ≤ most_side
  pub left : w ≤ m
  pub long : bytes ≡ length s * (2 * m)
  pub inside : outside w s ≡ false

-- A picture of its size at first, of which w columns are left, and a seam inside these.
pub record PictureSeam (z : Size) (w : ℕ) (s : List ℕ) (bytes : ℕ) : Type 0 where
  pub sides : refusal (side_rules z) ≡ 0
  pub left : w ≤ z.width
  pub long : bytes ≡ picture_bytes z
  pub columns : length s ≡ z.height
  pub inside : outside w s ≡ false
