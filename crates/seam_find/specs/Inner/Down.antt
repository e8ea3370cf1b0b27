-- All rows of sums, from the top. What private functions ask and promise; no public promise cites it.
use Rattle.std.specs.Prelude.{◌≡◌, false, List, ◌++◌, ℕ, ◌+◌, ◌-◌, ◌*◌, ◌≤◌, ◌<◌, length, get_or, take, drop}
use Rattle.grids.specs.Table.{table}
use Rattle.grids.specs.Rows.{flat}
use Rattle.pictures.specs.declared.sizes.Size.{Size}
use Rattle.seam_theory.specs.Sums.{CostRows, fenced, way_of3}
use Rattle.seam_theory.proofs.Kept.{kept_sum, kept_sums, kept_ways}

-- Room for the ways between the rows; the fenced sums of row 0; and room for three rows of energies, three of costs and one of sums.
pub record DownNeeded (most fence from : ℕ) (z : Size) (costs : List ℕ → ℕ → CostRows) (space above : List ℕ) (energies steps next : ℕ) : Type 0 where
  pub room : from + (z.height - 1) * z.width ≤ length space
  pub first : above ≡ kept_sums most fence z.width (costs (take from space)) 0
  pub energies_room : energies ≡ 3 * z.width
  pub steps_room : steps ≡ 3 * z.width
  pub next_room : next ≡ z.width

-- The ways between rows, the rest as it was; and the fenced sums of the last row.
pub record DownGiven (most fence from : ℕ) (z : Size) (costs : List ℕ → ℕ → CostRows) (space space' above' : List ℕ) : Type 0 where
  pub ways :
      space' ≡ take from space
      ++ (flat (table (kept_ways most fence z.width (costs (take from space))) (z.height - 1))
      ++ drop (from + (z.height - 1) * z.width) space)
  pub sums : above' ≡ kept_sums most fence z.width (costs (take from space)) (z.height - 1)

-- The same for row i alone: the sums of the row above stand between their fences and none is above them.
pub record RowNeeded (end from : ℕ) (z : Size) (i : ℕ) (space above : List ℕ) (energies steps next : ℕ) : Type 0 where
  pub later : 0 < i
  pub inside : i < z.height
  pub room : from + (z.height - 1) * z.width ≤ length space
  pub long : length above ≡ z.width + 2
  pub fences : above ≡ fenced false end z.width (take z.width (drop 1 above))
  pub small : (k : ℕ) → k < z.width → get_or above (k + 1) 0 ≤ end
  pub energies_room : energies ≡ 3 * z.width
  pub steps_room : steps ≡ 3 * z.width
  pub next_room : next ≡ z.width

-- Where row i's ways stand.
abbrev pub ways_at : ℕ → Size → ℕ → ℕ
ways_at from z i = from + (i - 1) * z.width

-- The ways of row i put in their place, and its sums,
pub record RowWorked (most from : ℕ) (z : Size) (costs : List ℕ → ℕ → CostRows) (i : ℕ) (space above space' next' : List ℕ) : Type 0 where
  pub ways : space' ≡ take (ways_at from z i) space ++ (table (way_of3 false z.width above (costs (take from space) i)) z.width ++ drop (ways_at from z i + z.width) space)
  pub sums : next' ≡ table (kept_sum most above (costs (take from space) i)) z.width

-- which then stand between the fences.
pub record RowGiven (most end from : ℕ) (z : Size) (costs : List ℕ → ℕ → CostRows) (i : ℕ) (space above space' above' : List ℕ) : Type 0 where
  pub ways : space' ≡ take (ways_at from z i) space ++ (table (way_of3 false z.width above (costs (take from space) i)) z.width ++ drop (ways_at from z i + z.width) space)
  pub sums : above' ≡ fenced false end z.width (table (kept_sum most above (costs (take from space) i)) z.width)
