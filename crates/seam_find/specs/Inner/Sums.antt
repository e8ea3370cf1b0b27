-- A row of sums from the row above it. What private functions ask and promise; no public promise cites it.
use Rattle.std.specs.Prelude.{◌≡◌, false, List, ℕ, ◌+◌, ◌*◌, ◌≤◌, ◌<◌, length, get_or}
use Rattle.grids.specs.Table.{table}
use Rattle.seam_theory.specs.Sums.{CostRows, alike_rows, way_of3}
use Rattle.seam_theory.proofs.Kept.{kept_sum}

-- The row above with its two sides, the costs of a row of n, and room for the row's sums, which fit, and for the ways.
pub record NextRowNeeded (fence : ℕ) (x cost : List ℕ) (n ways : ℕ) : Type 0 where
  pub above : length x ≡ n + 2
  pub costs : length cost ≡ n
  pub small : (k : ℕ) → k < n → get_or x (k + 1) 0 ≤ fence
  pub cheap : (k : ℕ) → get_or cost k 0 < fence
  pub ways_room : ways ≡ n

-- The row's sums as they are kept, and where each comes from.
pub record NextRowGiven (most : ℕ) (x cost : List ℕ) (n : ℕ) (next' ways' : List ℕ) : Type 0 where
  pub next_given : next' ≡ table (kept_sum most x (alike_rows cost)) n
  pub ways_given : ways' ≡ table (way_of3 false n x (alike_rows cost)) n

-- The same for costs by steps, of which there are three rows.
pub record NextStepsNeeded (fence : ℕ) (x : List ℕ) (k : CostRows) (steps n ways : ℕ) : Type 0 where
  pub above : length x ≡ n + 2
  pub steps_room : steps ≡ 3 * n
  pub small : (c : ℕ) → get_or x c 0 ≤ fence
  pub cheap_left : (c : ℕ) → get_or k.left c 0 < fence
  pub cheap_up : (c : ℕ) → get_or k.up c 0 < fence
  pub cheap_right : (c : ℕ) → get_or k.right c 0 < fence
  pub ways_room : ways ≡ n

pub record NextStepsGiven (most : ℕ) (x : List ℕ) (k : CostRows) (n : ℕ) (next' ways' : List ℕ) : Type 0 where
  pub next_given : next' ≡ table (kept_sum most x k) n
  pub ways_given : ways' ≡ table (way_of3 false n x k) n
