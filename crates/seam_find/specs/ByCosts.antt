-- Finding the cheapest path through a picture at the front of a space, by any costs.
use Rattle.std.specs.Prelude.{◌≡◌, Bool, false, List, ◌++◌, ℕ, ◌+◌, ◌-◌, ◌<◌, length, get_or, take, drop, replicate, Result}
use Rattle.grids.specs.Table.{table}
use Rattle.grids.specs.Rows.{flat}
use Rattle.pictures.specs.declared.sizes.Size.{Size}
use Rattle.pictures.specs.declared.refusals.Refusal.{Refusal}
use Rattle.pictures.specs.Refusals.{given, refusal, served}
use Rattle.pictures.specs.Pictures.{pixels}
use Rattle.seam_bounds.specs.Spaces.{find_space_rules}
use Rattle.seam_theory.specs.Sums.{CostRows, sums_down, ways_up, columns_to, least_to}

-- The sums of the last of h rows, and the first column of the least of them.
module _ (fence w h : ℕ) (costs : ℕ → CostRows) where
  abbrev pub last_sums : List ℕ
  last_sums = sums_down false fence w costs (h - 1)

  abbrev pub bottom_column : ℕ
  bottom_column = least_to last_sums (w - 1)

  abbrev pub least_sum : ℕ
  least_sum = get_or last_sums bottom_column 0

  -- The columns of the path that leads there.
  abbrev pub path_columns : List ℕ
  path_columns = columns_to (flat (table (ways_up false fence w costs) (h - 1))) w (h - 1) bottom_column

-- What is left of a space: its first `from` bytes, zeros for the picture's pixels, the rest as it was.
abbrev pub cleared_after : ℕ → Size → List ℕ → List ℕ
cleared_after from z space = take from space ++ (replicate (pixels z) 0 ++ drop (from + pixels z) space)

-- Where the rules refuse it, nothing is written; else the answer is what the least sum means, and if that isn't a refusal the path's columns
-- are given.
pub record FindByGiven (marked : Bool) (from fence : ℕ) (costs : List ℕ → ℕ → CostRows) (means : ℕ → Result ℕ Refusal → Type 0)
    (space : List ℕ) (z : Size) (seam : List ℕ) (answer : Result ℕ Refusal) (space' seam' : List ℕ) : Type 0 where
  pub refused :
      0 < refusal (find_space_rules z marked (length space) (length seam))
      → (given answer ≡ refusal (find_space_rules z marked (length space) (length seam))) × (space' ≡ space) × (seam' ≡ seam)
  pub found : refusal (find_space_rules z marked (length space) (length seam)) ≡ 0 → means (least_sum fence z.width z.height (costs (take from space))) answer
  pub space_left : refusal (find_space_rules z marked (length space) (length seam)) ≡ 0 → space' ≡ cleared_after from z space
  pub seam_given :
      refusal (find_space_rules z marked (length space) (length seam)) ≡ 0
      → seam' ≡ served (given answer) (path_columns fence z.width z.height (costs (take from space)) ++ drop z.height seam) seam
