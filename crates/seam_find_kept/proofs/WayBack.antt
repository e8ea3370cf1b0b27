-- The way back: which way leads where, and that none leads past an edge.
use mathlib.Core.Path.{◌≡◌, sym, ap, ◌∙◌}
use mathlib.Core.Bool.{false}
use mathlib.Core.List.{List}
use Prim.Native.Nat.{ℕ, suc, ◌+◌, ◌-◌, ◌≤◌, ◌<◌}
use native.Mathlib.Omega.{arith}
use native.Mathlib.Numerals.{add-one}
use lib.ListN.{get_or}
use Rattle.seam_theory.specs.Sums.{CostRows, sum_of3, way_of3, came_from, sums_down, ways_up}
use Rattle.pictures.specs.Limits.{most_side}
use Rattle.seam_sums.specs.Fences.{fence32}
use Rattle.seam_theory.proofs.Capped.{capped_way}
use Rattle.seam_theory.proofs.Falling.{way-within, way-leads, way_is, sum_is, sum_falls}
use Rattle.seam_find_kept.specs.Inner.Down.{fenced_sums}
use Rattle.seam_theory.proofs.Kept.{kept_sums}
use Rattle.seam_find_kept.proofs.KeptRows.{Cheap}
use Rattle.seam_find_kept.proofs.Small.{sums-long, sums-low}

-- A step up from column c of row i + 1, where its sum is below `most`, x being the sums of row i as they are kept.
pub record Stepped (k : ℕ → CostRows) (w i c way : ℕ) : Type 0 where
  pub later : 1 ≤ c + way
  pub leads : c + way - 1 ≡ came_from w c (get_or (ways_up false fence32 w k i) c 0)

module _ (k : ℕ → CostRows) (w i c : ℕ) (cheap : Cheap k w) (few : i < most_side) (inside : c < w) where
  abbrev above : List ℕ
  above = sums_down false fence32 w k i

  low-up : get_or above c 0 + get_or (k (suc i)).up c 0 < fence32
  low-up = omega (arith, sums-low k w cheap i few c inside, cheap.few (suc i) c)

  pub stepped : (most way : ℕ) (x : List ℕ) → x ≡ kept_sums most fence32 w k i → sum_of3 (fenced_sums k w i) (k (i + 1)) c < most
      → way ≡ way_of3 false w x (k (i + 1)) c
      → Stepped k w i c way
  stepped most way x is low told =
      let it : way ≡ way_of3 false w (fenced_sums k w i) (k (suc i)) c =
      told
      ∙ ap (λ y. way_of3 false w y (k (i + 1)) c) is
      ∙ capped_way most w (fenced_sums k w i) (k (i + 1)) c low
      ∙ ap (λ n. way_of3 false w (fenced_sums k w i) (k n) c) (add-one i) in
      record {
        later = omega (arith, it, (way-within fence32 w above (k (suc i)) (sums-long k w cheap i) c inside low-up).later);
        leads = ap (λ v. c + v - 1) it ∙ way-leads fence32 w above (k (suc i)) (sums-long k w cheap i) c inside low-up ∙ ap (came_from w c) (sym (way_is fence32 w k cheap.wide i c inside low-up));
      }

  -- The sum of column c of row i + 1, and that of the column above from which it comes.
  pub sum-next : get_or (sums_down false fence32 w k (i + 1)) c 0 ≡ sum_of3 (fenced_sums k w i) (k (i + 1)) c
  sum-next = rw (add-one i) (sum_is fence32 w k cheap.wide i c inside low-up)

  pub sum-falls : get_or above (came_from w c (get_or (ways_up false fence32 w k i) c 0)) 0 ≤ get_or (sums_down false fence32 w k (i + 1)) c 0
  sum-falls = rw (add-one i) (sum_falls fence32 w k cheap.wide i c inside low-up)
