-- A row of sums from the row above it. What private functions ask and promise; no public promise cites it.
use Rattle.std.specs.Prelude.{◌≡◌, List, ℕ, ◌+◌, ◌*◌, ◌≤◌, length, get_or}
use Rattle.pictures.specs.Numbers.{numbers_in}
use Rattle.seam_theory.specs.Sums.{CostRows}
use Rattle.seam_sums.specs.Fences.{fence32}

-- The bytes of the costs of a row of w, and room for its sums.
pub record FirstNeeded (cost w next : ℕ) : Type 0 where
  pub cost_long : cost ≡ 2 * w
  pub next_long : next ≡ w

-- The sums x of the row above with its two fences, none of them above a fence, the bytes of the row's costs, and room for its sums.
pub record ByOneNeeded (x : List ℕ) (cost w next : ℕ) : Type 0 where
  pub long : length x ≡ w + 2
  pub small : (k : ℕ) → get_or x k 0 ≤ fence32
  pub cost_long : cost ≡ 2 * w
  pub next_long : next ≡ w

-- The same for three rows of costs: of coming from straight above, from the left, from the right.
pub record ByStepsNeeded (x : List ℕ) (up left right w next : ℕ) : Type 0 where
  pub long : length x ≡ w + 2
  pub small : (k : ℕ) → get_or x k 0 ≤ fence32
  pub up_long : up ≡ 2 * w
  pub left_long : left ≡ 2 * w
  pub right_long : right ≡ 2 * w
  pub next_long : next ≡ w

abbrev pub step_rows : List ℕ → List ℕ → List ℕ → CostRows
step_rows up left right = record { left = numbers_in left; up = numbers_in up; right = numbers_in right }
