-- Rows of sums as the finder works them out, a row from the one above it, and the way back. No definition of a seam names
-- them.
use Rattle.std.specs.Prelude.{Bool, cond, ◌&&◌, List, [], ◌∷◌, ◌++◌, ℕ, zero, suc, ◌+◌, ◌-◌, ◌*◌, min, leb, ltb, eqb, get_or}
use Rattle.grids.specs.Table.{table}
use Rattle.energy.specs.Energy.{StepCosts}

-- Which of three numbers is the least, the first of equals: 0, 1 or 2.
unfoldable pub first_of3 : ℕ → ℕ → ℕ → ℕ
first_of3 x y z = cond (leb x (min y z)) 0 (cond (leb y z) 1 2)

-- The first, the second or the third of three.
abbrev pub pick3 : ℕ → ℕ → ℕ → ℕ → ℕ
pick3 a b c zero = a
pick3 a b c (suc zero) = b
pick3 a b c (suc (suc n)) = c

-- The costs of a row: of coming to each column from the left, from straight above, from the right.
pub record CostRows : Type 0 where
  pub left : List ℕ
  pub up : List ℕ
  pub right : List ℕ

-- From the costs of each of w pixels.
abbrev pub cost_rows : ℕ → (ℕ → StepCosts) → CostRows
cost_rows w k = record { left = table (λ c. (k c).left) w; up = table (λ c. (k c).up) w; right = table (λ c. (k c).right) w }

-- Where they are alike: the sums above column c decide, of which way_above is the least.
abbrev pub alike_rows : List ℕ → CostRows
alike_rows cost = record { left = cost; up = cost; right = cost }

abbrev pub way_above : List ℕ → ℕ → ℕ
way_above x c = first_of3 (get_or x c 0) (get_or x (c + 1) 0) (get_or x (c + 2) 0)

-- Whether the join counts among w columns. Of two columns each is beside the other without it.
abbrev pub joined_at : Bool → ℕ → Bool
joined_at wrap w = wrap && ltb 2 w

-- A row of sums with a number at either side, so that each column has three above it: at the join the sum at the other end,
-- else a fence, which is larger than every sum.
abbrev pub fenced : Bool → ℕ → ℕ → List ℕ → List ℕ
fenced wrap fence w s = cond (joined_at wrap w) (get_or s (w - 1) 0) fence ∷ (s ++ (cond (joined_at wrap w) (get_or s 0 0) fence ∷ []))

-- Column c, below the fenced sums x of the row above.
module _ (x : List ℕ) (k : CostRows) (c : ℕ) where
  abbrev pub left_sum : ℕ
  left_sum = get_or x c 0 + get_or k.left c 0

  abbrev pub up_sum : ℕ
  up_sum = get_or x (c + 1) 0 + get_or k.up c 0

  abbrev pub right_sum : ℕ
  right_sum = get_or x (c + 2) 0 + get_or k.right c 0

  -- Its sum is the least of the three.
  unfoldable pub sum_of3 : ℕ
  sum_of3 = min left_sum (min up_sum right_sum)

-- Which of the three it is, of equals the one at the smallest column: 0 the left one, 1 the middle one, 2 the right one. At the
-- join the right one of the last column, and the left one of the first, stand at the other end of the row.
unfoldable pub way_of3 : Bool → ℕ → List ℕ → CostRows → ℕ → ℕ
way_of3 wrap w x k c =
    cond (joined_at wrap w && eqb c 0) (pick3 1 2 0 (first_of3 (up_sum x k c) (right_sum x k c) (left_sum x k c)))
    (cond (joined_at wrap w && eqb (c + 1) w) (pick3 2 0 1 (first_of3 (right_sum x k c) (left_sum x k c) (up_sum x k c)))
    (first_of3 (left_sum x k c) (up_sum x k c) (right_sum x k c)))

-- The column of the row above to which a way leads from column c of w: 0 one to the left, 1 the same, 2 one to the right. A way
-- that leads past an edge comes in at the other.
unfoldable pub came_from : ℕ → ℕ → ℕ → ℕ
came_from w c way = cond (eqb (c + way) 0) (w - 1) (cond (ltb w (c + way)) 0 (c + way - 1))

-- All rows, from the costs of each row of w columns.
module _ (wrap : Bool) (fence w : ℕ) (costs : ℕ → CostRows) where
  -- The sums of row i.
  unfoldable pub sums_down : ℕ → List ℕ
  sums_down zero = (costs 0).up
  sums_down (suc i) = table (sum_of3 (fenced wrap fence w (sums_down i)) (costs (suc i))) w

  -- The ways from row i + 1 up to row i.
  unfoldable pub ways_up : ℕ → List ℕ
  ways_up i = table (way_of3 wrap w (fenced wrap fence w (sums_down i)) (costs (suc i))) w

-- The columns of the path to column c of row i, from the top row: ways holds, row after row of w, where each column of
-- row i + 1 comes from.
unfoldable pub columns_to : List ℕ → ℕ → ℕ → ℕ → List ℕ
columns_to ways w zero c = c ∷ []
columns_to ways w (suc i) c = columns_to ways w i (came_from w c (get_or ways (i * w + c) 0)) ++ (c ∷ [])

-- The first of the least sums among columns 0 to n.
unfoldable pub least_to : List ℕ → ℕ → ℕ
least_to s zero = 0
least_to s (suc n) = cond (ltb (get_or s (suc n) 0) (get_or s (least_to s n) 0)) (suc n) (least_to s n)
