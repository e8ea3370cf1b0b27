-- Whether each row of a map is a numbering. What private functions ask and promise; no public promise cites it.
use Rattle.std.specs.Prelude.{◌≡◌, true, List, ℕ, ◌*◌, ◌≤◌, ◌<◌, length}
use Rattle.grids.specs.Rows.{rows_of}
use Rattle.map_theory.specs.Judged.{every, numbers}
use Rattle.pictures.specs.Numbers.{numbers_in}
use Rattle.pictures.specs.Pictures.{largest_side}

-- A row of a map in bytes, judged at depth k.
pub record RowNeeded (row : List ℕ) (k : ℕ) : Type 0 where
  pub short : length row ≤ 2 * largest_side
  pub deep : k < largest_side

-- A map of h rows of w numbers in bytes, judged at depth k.
pub record MapNeeded (map : List ℕ) (w h k : ℕ) : Type 0 where
  pub long : length map ≡ h * (2 * w)
  pub wide : w ≤ largest_side
  pub tall : h ≤ largest_side
  pub some : 0 < h
  pub deep : k < w

-- A map that isn't refused by 9.
abbrev pub Numbered : List ℕ → ℕ → ℕ → ℕ → Type 0
Numbered map w h k = every (numbers k) (rows_of w h (numbers_in map)) ≡ true
