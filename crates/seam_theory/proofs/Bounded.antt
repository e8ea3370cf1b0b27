-- Rows of sums as the finder works them out: how long they are and what bounds them.
use mathlib.Core.Path.{◌≡◌}
use mathlib.Core.Bool.{Bool, cond}
use mathlib.Core.List.{List, [], ◌∷◌}
use Prim.Native.Nat.{ℕ, zero, suc, ◌+◌, ◌*◌, ◌≤◌, ◌<◌}
use native.Mathlib.Nat.{suc-mul}
use native.Mathlib.Numerals.{add-one}
use native.Mathlib.Omega.{arith}
use lib.ListN.{length, get_or, get_or-append}
use Rattle.grids.proofs.Tables.{length-table, table_at}
use Rattle.seam_theory.specs.Sums.{CostRows, joined_at, fenced, sum_of3, sums_down}

-- The sum of a column, between the sides of its row.
pub fenced_at : (wrap : Bool) (fence w : ℕ) (s : List ℕ) (c : ℕ) → c < length s → get_or (fenced wrap fence w s) (c + 1) 0 ≡ get_or s c 0
fenced_at wrap fence w s c h = rw (add-one c) (get_or-append s (cond (joined_at wrap w) (get_or s 0 0) fence ∷ []) 0 c h)

module _ (wrap : Bool) (fence w : ℕ) (costs : ℕ → CostRows) (wide : length (costs 0).up ≡ w) where
  -- A row has a sum for each column.
  pub length-sums : (i : ℕ) → length (sums_down wrap fence w costs i) ≡ w
  unfolding sums_down
  length-sums zero = wide
  length-sums (suc i) = length-table (sum_of3 (fenced wrap fence w (sums_down wrap fence w costs i)) (costs (suc i))) w

  -- The sums of row i are at most i + 1 times the largest cost of coming from straight above.
  module _ (m : ℕ) (most : (i k : ℕ) → get_or (costs i).up k 0 ≤ m) where
    pub sums-most : (i c : ℕ) → c < w → get_or (sums_down wrap fence w costs i) c 0 ≤ suc i * m
    unfolding sums_down sum_of3
    sums-most zero c h = omega (arith, most 0 c, suc-mul 0 m)
    sums-most (suc i) c h =
        let x = fenced wrap fence w (sums_down wrap fence w costs i) in
        let k = costs (suc i) in
        let own : get_or x (c + 1) 0 ≡ get_or (sums_down wrap fence w costs i) c 0 =
        fenced_at wrap fence w (sums_down wrap fence w costs i) c (omega (arith, length-sums i)) in
        let here : sum_of3 x k c ≤ get_or x (c + 1) 0 + get_or k.up c 0 = omega arith in
        rw (table_at (sum_of3 x k) w c 0 h)
        (omega (arith, own, here, sums-most i c h, most (suc i) c, suc-mul (suc i) m))
