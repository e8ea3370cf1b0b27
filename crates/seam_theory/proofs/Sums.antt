-- All rows of sums and ways as the finder works them out find the cheapest path: the columns by the ways are its columns, and
-- the least sum of the last row is its cost. For any costs of steps, with and without the join.
use mathlib.Core.Path.{◌≡◌, refl, sym, ap, ◌∙◌}
use mathlib.Core.Logic.{◌⊎◌, inl, inr}
use mathlib.Core.Bool.{Bool, cond}
use mathlib.Core.Option.{some}
use mathlib.Core.List.{List, [], ◌∷◌, ◌++◌, reverse, reverse-cons}
use Prim.Native.Nat.{ℕ, zero, suc, ◌+◌, ◌-◌, ◌*◌, ◌≤◌, ◌<◌}
use native.Mathlib.Omega.{arith}
use lib.Dec.{ltb}
use lib.ListN.{length, get_or}
use borrow.Author.Tests.{lt-ltb, le-ltb}
use Rattle.grids.specs.Each.{Grid}
use Rattle.grids.specs.Table.{table}
use Rattle.grids.specs.Rows.{flat}
use Rattle.grids.proofs.Orders.{le-or-lt}
use Rattle.grids.proofs.Tables.{length-table, table_at, table_same, each-table}
use Rattle.grids.proofs.Rows.{flat_at, row_at_get_d, length-flat}
use Rattle.seam_theory.specs.Best.{least}
use Rattle.seam_theory.specs.Paths.{run, cost, nearby}
use Rattle.seam_theory.specs.Seams.{cheapest}
use Rattle.seam_theory.specs.Sums.{CostRows, joined_at, fenced, sum_of3, way_of3, came_from, sums_down, ways_up, columns_to, least_to}
use Rattle.seam_theory.proofs.Nearby.{nearby_self, nearby_stay}
use Rattle.seam_theory.proofs.Rows.{Neighbours, from, sum_at, from-within, sums, trace, bottom, cheapest-trace}
use Rattle.seam_theory.proofs.Loops.{starts_at, keeps, moves, bottom_is, bottom-within, cheapest-cost}
use Rattle.seam_theory.proofs.Fenced.{Through, Above}
use Rattle.seam_theory.proofs.Bounded.{length-sums}
use Rattle.seam_theory.proofs.Kernel.{way_from, sum-from}

-- Columns nearby are such that a path can stay in its column and none leads out of the grid.
pub near_neighbours : (wrap : Bool) (w : ℕ) → Neighbours (nearby wrap w) w
near_neighbours wrap w = record { self = nearby_self wrap w; stay = nearby_stay wrap w }

-- The first of the least sums among columns 0 to n.
least_to_lem : (s : List ℕ) (n : ℕ) → least (λ c. get_or s c 0) (run 0 (n + 1 - 0)) ≡ some (least_to s n)
unfolding least_to
least_to_lem s zero = starts_at (λ c. get_or s c 0) 0
least_to_lem s (suc n) = go (let e : n + 1 - 0 ≡ suc n - 0 = omega arith in rw e at (least_to_lem s n)) (le-or-lt (f b) (f (suc n)))
  where
    f : ℕ → ℕ
    f c = get_or s c 0

    b : ℕ
    b = least_to s n

    go : least f (run 0 (suc n - 0)) ≡ some b → (f b ≤ f (suc n)) ⊎ (f (suc n) < f b)
        → least f (run 0 (suc n + 1 - 0)) ≡ some (cond (ltb (f (suc n)) (f b)) (suc n) b)
    go seen (inl h) = rw (le-ltb (f (suc n)) (f b) h) (keeps f 0 (suc n) b (omega arith) seen h)
    go seen (inr h) = rw (lt-ltb (f (suc n)) (f b) h) (moves f 0 (suc n) b (omega arith) seen h)

-- What the costs of h rows have to do with a price: those of row 0 are its firsts, those of the other rows are its steps, and no
-- sum reaches the fence.
pub record Costed (wrap : Bool) (fence w h : ℕ) (costs : ℕ → CostRows) (first : ℕ → ℕ) (step : ℕ → ℕ → ℕ → ℕ) : Type 0 where
  pub first_row_is : (costs 0).up ≡ table first w
  pub rows : (i : ℕ) (s : List ℕ) → Through (joined_at wrap w) w s (costs (suc i)) (λ c a. get_or s a 0 + step (suc i) a c)
  pub low : (i c : ℕ) → i < h - 1 → c < w → get_or (sums_down wrap fence w costs i) c 0 + get_or (costs (suc i)).up c 0 < fence

-- What is found: the cheapest path, its columns by the ways, and its cost.
pub record FoundPath (wrap : Bool) (fence w h : ℕ) (costs : ℕ → CostRows) (first : ℕ → ℕ) (step : ℕ → ℕ → ℕ → ℕ) : Type 0 where
  pub path : List ℕ
  pub is : cheapest (nearby wrap w) first step w h ≡ some path
  pub columns :
      columns_to (flat (table (ways_up wrap fence w costs) (h - 1))) w (h - 1) (least_to (sums_down wrap fence w costs (h - 1)) (w - 1))
      ≡ reverse path
  pub price : cost first step path ≡ get_or (sums_down wrap fence w costs (h - 1)) (least_to (sums_down wrap fence w costs (h - 1)) (w - 1)) 0

-- The ways of n rows.
module _ (wrap : Bool) (fence w n : ℕ) (costs : ℕ → CostRows) where
  ways-grid : Grid w n (table (ways_up wrap fence w costs) n)
  unfolding ways_up
  ways-grid =
      each-table (ways_up wrap fence w costs) n
      (λ k m. length-table (way_of3 wrap w (fenced wrap fence w (sums_down wrap fence w costs k)) (costs (suc k))) w)

  -- Read from the flat buffer,
  pub ways_at_lem : (i c : ℕ) → i < n → c < w → get_or (flat (table (ways_up wrap fence w costs) n)) (i * w + c) 0 ≡ get_or (ways_up wrap fence w costs i) c 0
  ways_at_lem i c h l =
      sym (row_at_get_d w (flat (table (ways_up wrap fence w costs) n)) i c 0 l)
      ∙ ap (λ x. get_or x c 0) (flat_at ways-grid i h ∙ table_at (ways_up wrap fence w costs) n i [] h)

  -- which holds one for each column.
  pub ways-long : length (flat (table (ways_up wrap fence w costs) n)) ≡ n * w
  ways-long = length-flat ways-grid

module _ (wrap : Bool) (fence w h : ℕ) (costs : ℕ → CostRows) (first : ℕ → ℕ) (step : ℕ → ℕ → ℕ → ℕ) (k : Costed wrap fence w h costs first step) where
  abbrev above : ℕ → List ℕ
  above = nearby wrap w

  abbrev row : ℕ → List ℕ
  row = sums_down wrap fence w costs

  abbrev n : ℕ
  n = h - 1

  abbrev f : ℕ → ℕ → ℕ → ℕ
  f i c a = get_or (row i) a 0 + step (suc i) a c

  long : (i : ℕ) → length (row i) ≡ w
  long = length-sums wrap fence w costs (ap length k.first_row_is ∙ length-table first w)

  above-row : (i : ℕ) → i < n → Above wrap fence w (row i) (costs (suc i)) (f i)
  above-row i l = record { wide = long i; through = k.rows i (row i); low = λ c m. k.low i c l m }

  -- The rows of sums are the theory's.
  sums_link : (i : ℕ) → i ≤ n → row i ≡ sums above first step w i
  unfolding sums_down sums
  sums_link zero l = k.first_row_is
  sums_link (suc i) l =
      table_same (sum_of3 (fenced wrap fence w (row i)) (costs (suc i))) (sum_at above step (row i) (suc i)) w
      (λ c m. sum-from wrap fence w (row i) (costs (suc i)) (f i) (above-row i (omega arith)) c m)
      ∙ ap (λ s. table (sum_at above step s (suc i)) w) (sums_link i (omega arith))

  -- A way leads to the column from which the theory comes.
  way_link : (i c : ℕ) → i < n → c < w → came_from w c (get_or (ways_up wrap fence w costs i) c 0) ≡ from above step (sums above first step w i) (suc i) c
  unfolding ways_up
  way_link i c l m =
      ap (came_from w c) (table_at (way_of3 wrap w (fenced wrap fence w (row i)) (costs (suc i))) w c 0 m)
      ∙ way_from wrap fence w (row i) (costs (suc i)) (f i) (above-row i l) c m
      ∙ ap (λ s. from above step s (suc i) c) (sums_link i (omega arith))

  -- The columns by the ways are the theory's way back, read from the top row.
  columns_link : (i c : ℕ) → i ≤ n → c < w → columns_to (flat (table (ways_up wrap fence w costs) n)) w i c ≡ reverse (trace above first step w i c)
  unfolding columns_to trace
  columns_link zero c l m = refl
  columns_link (suc i) c l m =
      let a : ℕ = from above step (sums above first step w i) (suc i) c in
      ap (λ b. columns_to (flat (table (ways_up wrap fence w costs) n)) w i b ++ (c ∷ []))
      (ap (came_from w c) (ways_at_lem wrap fence w n costs i c l m) ∙ way_link i c l m)
      ∙ ap (◌++ (c ∷ [])) (columns_link i a (omega arith) (from-within above step w (near_neighbours wrap w) (sums above first step w i) (suc i) c m))
      ∙ sym (reverse-cons c (trace above first step w i a))

  -- So the cheapest path is found.
  pub found : 0 < w → 0 < h → FoundPath wrap fence w h costs first step
  found some-column some-row =
      let e : suc n ≡ h = omega arith in
      record {
        path = trace above first step w n b;
        is = rw e at (cheapest-trace above first step w (near_neighbours wrap w) some-column n);
        columns = ap (columns_to (flat (table (ways_up wrap fence w costs) n)) w n) at ∙ columns_link n b (omega arith) within;
        price = cheapest-cost above first step w (near_neighbours wrap w) some-column n ∙ sym (rw (at, sums_link n (omega arith)));
      }
    where
      b : ℕ
      b = bottom above first step w n

      at : least_to (row n) (w - 1) ≡ b
      at =
          let e : w - 1 + 1 - 0 ≡ w = omega arith in
          sym (bottom_is above first step w n (least_to (row n) (w - 1))
          (ap (λ s. least (λ c. get_or s c 0) (run 0 w)) (sym (sums_link n (omega arith))) ∙ rw e at (least_to_lem (row n) (w - 1))))

      within : b < w
      within = bottom-within above first step w (near_neighbours wrap w) some-column n
