-- Rows of sums that are kept with numbers that stay at `most`, and the ways that are worked out from them: where the least sum is below
-- `most`, they lead along the cheapest path.
use mathlib.Core.Path.{◌≡◌, refl, sym, ap, ◌∙◌}
use mathlib.Core.Bool.{false}
use mathlib.Core.List.{List, [], ◌∷◌, ◌++◌}
use Prim.Native.Nat.{ℕ, zero, suc, ◌+◌, ◌*◌, ◌≤◌, ◌<◌, min}
use native.Mathlib.Omega.{arith}
use lib.ListN.{length, get_or}
use Rattle.grids.specs.Each.{Grid}
use Rattle.grids.specs.Table.{table}
use Rattle.grids.specs.Rows.{flat}
use Rattle.grids.proofs.Tables.{length-table, table_at, each-table}
use Rattle.grids.proofs.Rows.{flat_at, row_at_get_d, length-flat}
use Rattle.seam_theory.specs.Sums.{CostRows, fenced, sum_of3, way_of3, came_from, sums_down, ways_up, columns_to}
use Rattle.seam_theory.proofs.Ways.{came_inside}
use Rattle.seam_theory.proofs.Sums.{ways_at_lem}
use Rattle.seam_theory.proofs.Capped.{capped, capped_small, capped_fenced, capped_row, capped_way}
use Rattle.seam_theory.proofs.Falling.{way_is, sum_is, sum_falls}

-- The sum of column c below a row of sums x, as it is kept.
abbrev pub kept_sum : ℕ → List ℕ → CostRows → ℕ → ℕ
kept_sum most x k c = min most (sum_of3 x k c)

module _ (most fence w : ℕ) (costs : ℕ → CostRows) where
  -- The sums of row i between their fences, as they are kept, and the ways that row i + 1 has by them.
  abbrev pub kept_sums : ℕ → List ℕ
  kept_sums i = capped most (fenced false fence w (sums_down false fence w costs i))

  abbrev pub kept_ways : ℕ → List ℕ
  kept_ways i = table (way_of3 false w (kept_sums i) (costs (suc i))) w

  -- The first row is as it was, where no cost is more.
  pub kept_first : ((c : ℕ) → get_or (costs 0).up c 0 ≤ most) → fenced false (min most fence) w (costs 0).up ≡ kept_sums 0
  unfolding sums_down
  kept_first few =
      ap (fenced false (min most fence) w) (sym (capped_small most (costs 0).up few))
      ∙ sym (capped_fenced most fence w (costs 0).up)

  -- A row from the one above it.
  pub kept_next : (i : ℕ) → fenced false (min most fence) w (table (kept_sum most (kept_sums i) (costs (suc i))) w) ≡ kept_sums (suc i)
  unfolding sums_down
  kept_next i =
      let x = fenced false fence w (sums_down false fence w costs i) in
      ap (fenced false (min most fence) w) (capped_row most x (costs (suc i)) w)
      ∙ sym (capped_fenced most fence w (table (sum_of3 x (costs (suc i))) w))

  -- The ways of n rows, read from a flat buffer.
  module _ (n : ℕ) where
    kept-grid : Grid w n (table kept_ways n)
    kept-grid = each-table kept_ways n (λ i l. length-table (way_of3 false w (kept_sums i) (costs (suc i))) w)

    pub kept_ways-long : length (flat (table kept_ways n)) ≡ n * w
    kept_ways-long = length-flat kept-grid

    kept_ways_at : (i c : ℕ) → i < n → c < w → get_or (flat (table kept_ways n)) (i * w + c) 0 ≡ way_of3 false w (kept_sums i) (costs (suc i)) c
    kept_ways_at i c h l =
        sym (row_at_get_d w (flat (table kept_ways n)) i c 0 l)
        ∙ ap (λ x. get_or x c 0) (flat_at kept-grid i h ∙ table_at kept_ways n i [] h)
        ∙ table_at (way_of3 false w (kept_sums i) (costs (suc i))) w c 0 l

    -- From a sum below `most` they lead where the ways of the sums themselves lead.
    module _ (wide : length (costs 0).up ≡ w)
        (low : (i c : ℕ) → i < n → c < w → get_or (sums_down false fence w costs i) c 0 + get_or (costs (suc i)).up c 0 < fence) where
      pub kept_columns : (i c : ℕ) → i ≤ n → c < w → get_or (sums_down false fence w costs i) c 0 < most
          → columns_to (flat (table kept_ways n)) w i c ≡ columns_to (flat (table (ways_up false fence w costs) n)) w i c
      unfolding columns_to
      kept_columns zero c h l few = refl
      kept_columns (suc i) c h l few =
          let ways = flat (table (ways_up false fence w costs) n) in
          let under = low i c (omega arith) l in
          let x = fenced false fence w (sums_down false fence w costs i) in
          let same : get_or (flat (table kept_ways n)) (i * w + c) 0 ≡ get_or ways (i * w + c) 0 =
          kept_ways_at i c (omega arith) l
          ∙ capped_way most w x (costs (suc i)) c (rw (sum_is fence w costs wide i c l under) at few)
          ∙ sym (way_is fence w costs wide i c l under)
          ∙ sym (ways_at_lem false fence w n costs i c (omega arith) l)
          in
          let a : ℕ = came_from w c (get_or ways (i * w + c) 0) in
          let falls : get_or (sums_down false fence w costs i) a 0 ≤ get_or (sums_down false fence w costs (suc i)) c 0 =
          rw (ways_at_lem false fence w n costs i c (omega arith) l) (sum_falls fence w costs wide i c l under)
          in
          ap (λ b. columns_to (flat (table kept_ways n)) w i (came_from w c b) ++ (c ∷ [])) same
          ∙ ap (◌++ (c ∷ [])) (kept_columns i a (omega arith) (came_inside w c (get_or ways (i * w + c) 0) (omega (arith, l))) (omega (arith, falls, few)))
