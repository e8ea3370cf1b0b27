-- The first of the least sums of the last row. What private functions ask and promise; no public promise cites it.
use Rattle.std.specs.Prelude.{◌≡◌, false, List, ◌++◌, ℕ, ◌+◌, ◌-◌, ◌*◌, ◌≤◌, ◌<◌, length, get_or, take, drop, replicate}
use Rattle.grids.specs.Table.{table}
use Rattle.grids.specs.Rows.{flat}
use Rattle.pictures.specs.declared.sizes.Size.{Size}
use Rattle.seam_theory.specs.Sums.{CostRows, sums_down, least_to}
use Rattle.seam_theory.proofs.Capped.{capped}
use Rattle.seam_theory.proofs.Kept.{kept_ways}

-- Below, the first `from` bytes of a space hold what the costs of each row are read from; after them is room for the ways
-- between the rows.
pub record BottomNeeded (from : ℕ) (z : Size) (space : List ℕ) : Type 0 where
  pub room : from + (z.height - 1) * z.width ≤ length space

-- The ways, and the first of the least sums of the last row.
pub record BottomGiven (most fence from : ℕ) (z : Size) (costs : List ℕ → ℕ → CostRows) (space space' : List ℕ) (column sum : ℕ) : Type 0 where
  pub ways :
      space' ≡ take from space
      ++ (flat (table (kept_ways most fence z.width (costs (take from space))) (z.height - 1))
      ++ drop (from + (z.height - 1) * z.width) space)
  pub column_is : column ≡ least_to (capped most (sums_down false fence z.width (costs (take from space)) (z.height - 1))) (z.width - 1)
  pub inside : column < z.width
  pub sum_is : sum ≡ get_or (capped most (sums_down false fence z.width (costs (take from space)) (z.height - 1))) column 0

-- Besides, room for the fenced sums of a row, which is all fence, for three rows of energies, three of costs and one of sums.
pub record BottomWithNeeded (end from : ℕ) (z : Size) (space above : List ℕ) (energies steps next : ℕ) : Type 0 where
  pub room : from + (z.height - 1) * z.width ≤ length space
  pub fences : above ≡ replicate (z.width + 2) end
  pub energies_room : energies ≡ 3 * z.width
  pub steps_room : steps ≡ 3 * z.width
  pub next_room : next ≡ z.width
