-- The way up from a column leads to one of the columns, and to a sum that isn't larger.
use mathlib.Core.Path.{◌≡◌, refl, sym, ap, ◌∙◌, subst}
use mathlib.Core.Bool.{false}
use mathlib.Core.Logic.{◌⊎◌, inl, inr, ⊎_elim}
use mathlib.Core.List.{List, []}
use Prim.Native.Nat.{ℕ, suc, ◌+◌, ◌-◌, ◌≤◌, ◌<◌, min}
use native.Mathlib.Omega.{arith}
use lib.ListN.{length, get_or}
use lib.Seq.{get_or_at}
use borrow.Author.Tests.{le-leb, lt-leb}
use Rattle.grids.proofs.Orders.{le-or-lt}
use Rattle.grids.proofs.Tables.{table_at}
use Rattle.seam_theory.specs.Sums.{CostRows, fenced, first_of3, left_sum, up_sum, right_sum, sum_of3, way_of3, came_from, sums_down, ways_up}
use Rattle.seam_theory.proofs.Bounded.{fenced_at, length-sums}
use Rattle.seam_theory.proofs.Ways.{way_plain, came_inner}

-- Which of three is the least, the first of equals.
data Which (x y z way : ℕ) : Type 0 where
  first : way ≡ 0 → x ≤ min y z → Which x y z way
  second : way ≡ 1 → y < x → y ≤ z → Which x y z way
  third : way ≡ 2 → z < x → z < y → Which x y z way

which : (x y z : ℕ) → Which x y z (first_of3 x y z)
unfolding first_of3
which x y z = go (le-or-lt x (min y z)) (le-or-lt y z)
  where
    go : (x ≤ min y z) ⊎ (min y z < x) → (y ≤ z) ⊎ (z < y) → Which x y z (first_of3 x y z)
    go (inl l) m = first (rw (le-leb x (min y z) l) refl) l
    go (inr l) (inl m) = second (rw (lt-leb x (min y z) l, le-leb y z m) refl) (omega arith) m
    go (inr l) (inr m) = third (rw (lt-leb x (min y z) l, lt-leb y z m) refl) (omega arith) m

-- Below a row of sums of which none with the cost of coming from straight above reaches the fence.
module _ (fence w : ℕ) (s : List ℕ) (k : CostRows) (long : length s ≡ w) (c : ℕ) (inside : c < w)
    (low : get_or s c 0 + get_or k.up c 0 < fence) where
  abbrev x : List ℕ
  x = fenced false fence w s

  abbrev way : ℕ
  way = way_of3 false w (fenced false fence w s) k c

  up_is : up_sum x k c < fence
  up_is = omega (arith, fenced_at false fence w s c (omega arith), low)

  left-fence : c ≡ 0 → fence ≤ left_sum x k c
  left-fence e = let f : get_or x c 0 ≡ fence = ap (λ n. get_or x n 0) e in omega arith

  right-fence : c + 1 ≡ w → fence ≤ right_sum x k c
  right-fence e =
      let at : c + 2 ≡ suc w = omega arith in
      let f : get_or x (c + 2) 0 ≡ fence = ap (λ n. get_or x n 0) at ∙ get_or_at s fence [] 0 w long in
      omega arith

  plain : way ≡ first_of3 (left_sum x k c) (up_sum x k c) (right_sum x k c)
  plain = way_plain false w x k c (inr refl) (inr refl)

  -- The way of column c leads to one of the columns.
  pub record Within (way : ℕ) : Type 0 where
    pub later : 0 < c + way
    pub before : c + way ≤ w

  pub way-within : Within way
  way-within =
      go
      (subst (Which (left_sum x k c) (up_sum x k c) (right_sum x k c)) (sym plain)
      (which (left_sum x k c) (up_sum x k c) (right_sum x k c)))
    where
      go : Which (left_sum x k c) (up_sum x k c) (right_sum x k c) way → Within way
      go (first e l) = record {
        later = ⊎_elim (λ (z : c ≤ 0). absurd (omega (arith, left-fence (omega arith), up_is))) (λ (p : 0 < c). omega arith) (le-or-lt c 0);
        before = omega arith;
      }
      go (second e l m) = record { later = omega arith; before = omega arith }
      go (third e m l) = record {
        later = omega arith;
        before =
            ⊎_elim (λ (z : w ≤ c + 1). absurd (omega (arith, right-fence (omega arith), up_is))) (λ (p : c + 1 < w). omega arith)
            (le-or-lt w (c + 1));
      }

  pub way-leads : c + way - 1 ≡ came_from w c way
  way-leads = sym (came_inner w c way way-within.later way-within.before)

  -- The sum there isn't more than the sum that comes from it.
  pub came-low : get_or s (came_from w c way) 0 ≤ sum_of3 x k c
  unfolding sum_of3
  came-low =
      let there : c + way ≡ came_from w c way + 1 = omega (arith, way-leads, way-within.later) in
      let inside : came_from w c way < length s = omega (arith, there, way-within.before, long) in
      let is : get_or x (c + way) 0 ≡ get_or s (came_from w c way) 0 =
      ap (λ n. get_or x n 0) there ∙ fenced_at false fence w s (came_from w c way) inside in
      go is
      (subst (Which (left_sum x k c) (up_sum x k c) (right_sum x k c)) (sym plain)
      (which (left_sum x k c) (up_sum x k c) (right_sum x k c)))
    where
      go : get_or x (c + way) 0 ≡ get_or s (came_from w c way) 0 → Which (left_sum x k c) (up_sum x k c) (right_sum x k c) way
          → get_or s (came_from w c way) 0 ≤ min (left_sum x k c) (min (up_sum x k c) (right_sum x k c))
      go is (first e l) = let at : get_or x (c + way) 0 ≡ get_or x c 0 = ap (λ n. get_or x n 0) (omega (arith, e)) in omega (arith, is, at, l)
      go is (second e l m) = let at : get_or x (c + way) 0 ≡ get_or x (c + 1) 0 = ap (λ n. get_or x (c + n) 0) e in omega (arith, is, at, l, m)
      go is (third e m l) = let at : get_or x (c + way) 0 ≡ get_or x (c + 2) 0 = ap (λ n. get_or x (c + n) 0) e in omega (arith, is, at, m, l)

-- From row i + 1 up to row i, of which no sum with the cost of coming from straight above reaches the fence.
module _ (fence w : ℕ) (costs : ℕ → CostRows) (wide : length (costs 0).up ≡ w) (i c : ℕ) (inside : c < w)
    (low : get_or (sums_down false fence w costs i) c 0 + get_or (costs (suc i)).up c 0 < fence) where
  abbrev above : List ℕ
  above = sums_down false fence w costs i

  pub way_is : get_or (ways_up false fence w costs i) c 0 ≡ way_of3 false w (fenced false fence w (sums_down false fence w costs i)) (costs (suc i)) c
  unfolding ways_up
  way_is = table_at (way_of3 false w (fenced false fence w above) (costs (suc i))) w c 0 inside

  -- The sum of a column, and that of the column above from which it comes.
  pub sum_is : get_or (sums_down false fence w costs (suc i)) c 0 ≡ sum_of3 (fenced false fence w (sums_down false fence w costs i)) (costs (suc i)) c
  unfolding sums_down
  sum_is = table_at (sum_of3 (fenced false fence w above) (costs (suc i))) w c 0 inside

  pub sum_falls : get_or (sums_down false fence w costs i) (came_from w c (get_or (ways_up false fence w costs i) c 0)) 0 ≤ get_or (sums_down false fence w costs (suc i)) c 0
  sum_falls = rw (way_is, sum_is) (came-low fence w above (costs (suc i)) (length-sums false fence w costs wide i) c inside low)
