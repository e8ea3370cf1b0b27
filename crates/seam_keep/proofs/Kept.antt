-- A plane of costs that was closed along a seam, with the costs beside it worked out anew, holds what the refresh says.
use mathlib.Core.Path.{◌≡◌, sym, ap, ap₂, ◌∙◌}
use mathlib.Core.Bool.{cond, ◌||◌}
use mathlib.Core.List.{List, []}
use Prim.Native.Nat.{ℕ, ◌+◌, ◌-◌, ◌*◌, ◌≤◌, ◌<◌}
use native.Mathlib.Nat.{zero-add}
use native.Mathlib.Omega.{arith}
use lib.Dec.{eqb}
use lib.ListN.{length, length-map, get_or, take}
use Rattle.grids.specs.Table.{table}
use Rattle.grids.specs.Cut.{cut}
use Rattle.grids.proofs.Shapes.{each_at}
use Rattle.grids.proofs.Tables.{table_same, table_part}
use Rattle.grids.proofs.Rows.{length-rows_of}
use Rattle.pictures.specs.declared.sizes.Size.{Size}
use Rattle.pictures.specs.Numbers.{numbers_in}
use Rattle.pictures.proofs.Limits.{sides_are}
use Rattle.pictures.proofs.Samples.{AreBytes}
use Rattle.energy.specs.declared.methods.Method.{Method}
use Rattle.energy.specs.declared.pixels.Step.{Step}
use Rattle.energy.specs.Methods.{wrap_of}
use Rattle.seam_bounds.proofs.Moving.{inside_each}
use Rattle.seam_planes.specs.Planes.{fronts, numbers_of, NumbersSeam}
use Rattle.seam_keep.specs.Refresh.{stood, changed, number_at, refreshed}
use Rattle.seam_keep.specs.Keeping.{KeepAsked}
use Rattle.seam_keep.specs.Inner.{fresh_costs, refreshed_at}
use Rattle.seam_keep.proofs.Refresh.{cut_stood}
use Rattle.seam_keep.proofs.Beside.{changed_beside}
use Rattle.seam_planes.proofs.Elements.{numbers_grid}
use Rattle.seam_planes.proofs.Fronts.{fronts_at, fronts_table}
use Rattle.seam_keep.proofs.Lined.{plane_rows}
use Rattle.seam_keep.proofs.Most.{fresh_most}
use Rattle.seam_keep.proofs.Placed.{length_refreshed, refreshed_number}

-- The first numbers of a list.
take_table : (xs : List ℕ) (w : ℕ) → w ≤ length xs → take w xs ≡ table (λ c. get_or xs c 0) w
take_table xs w l = table_part xs 0 w 0 (omega arith) ∙ table_same (λ c. get_or xs (0 + c) 0) (λ c. get_or xs c 0) w (λ c i. ap (λ n. get_or xs n 0) (zero-add c))

module _ (how : Method) (from : Step) (z : Size) (w : ℕ) (s b : List ℕ) where
  module _ (bytes plane : ℕ) (asked : KeepAsked how z w s bytes plane) where
    -- What closing the plane up asks, and what the loop after it asks.
    pub closing : NumbersSeam z.width (w + 1) s plane
    closing =
        let sides = sides_are z asked.sides in
        record {
          narrow = sides.width_small;
          low = omega (arith, asked.columns, sides.height_small);
          left = asked.left;
          long = asked.room ∙ plane_rows z ∙ ap (◌* (2 * z.width)) (sym asked.columns);
          inside = asked.inside;
        }

    -- The seam's columns, in each row.
    pub column_inside : (r : ℕ) → r < z.height → get_or s r 0 < w + 1
    column_inside r l = each_at r 0 (omega (arith, asked.columns)) (inside_each (w + 1) s asked.inside)

    -- Which pixels have changed.
    which_changed : (r c : ℕ) → r < z.height → c < w → changed (wrap_of how) (w + 1) z.height s r c ≡ (eqb (c + 1) (get_or s r 0) || eqb c (get_or s r 0))
    unfolding wrap_of
    which_changed r c row column = changed_beside (w + 1) z.height s r c asked.columns column_inside asked.joined row (omega arith)

  -- A row as long as it was.
  pub row_wide : (plane : List ℕ) → length plane ≡ z.height * (2 * z.width) → (r : ℕ) → r < z.height → length (refreshed_at how from z w b s (numbers_of z.width z.height plane) r) ≡ z.width
  row_wide plane e r l =
      length_refreshed w (get_or s r 0) (fresh_costs how from z w b r (get_or s r 0 - 1)) (fresh_costs how from z w b r (get_or s r 0)) (get_or (numbers_of z.width z.height plane) r [])
      ∙ each_at r [] l (numbers_grid z.width z.height plane e)

  module _ (old closed : List ℕ) (asked : KeepAsked how z w s (length b) (length old)) (are : AreBytes b) (same : length closed ≡ length old)
      (is : fronts w (numbers_of z.width z.height closed) ≡ cut s (fronts (w + 1) (numbers_of z.width z.height old))) where
    abbrev kept : List (List ℕ)
    kept = fronts (w + 1) (numbers_of z.width z.height old)

    abbrev left : List (List ℕ)
    left = numbers_of z.width z.height closed

    long : length closed ≡ z.height * (2 * z.width)
    long = same ∙ asked.room ∙ plane_rows z

    -- What the closed plane holds is what stood there.
    carried : (r c : ℕ) → c < w → number_at left r c ≡ number_at kept r (stood s r c)
    carried r c column =
        let rows : length s ≡ length kept = asked.columns ∙ sym (length-map (numbers_of z.width z.height old) (take (w + 1)) ∙ length-rows_of z.width z.height (numbers_in old)) in
        sym (fronts_at w left r c 0 column) ∙ ap (λ k. number_at k r c) is ∙ cut_stood 0 s kept r c rows

    one : (r c : ℕ) → r < z.height → c < w
        → get_or (refreshed_at how from z w b s left r) c 0 ≡ cond (changed (wrap_of how) (w + 1) z.height s r c) (fresh_costs how from z w b r c) (number_at kept r (stood s r c))
    one r c row column =
        let fits : w ≤ length (get_or left r []) = omega (arith, each_at {P = λ x. length x ≡ z.width} r [] row (numbers_grid z.width z.height closed long), asked.left) in
        let inside : get_or s r 0 ≤ w = omega (arith, column_inside (length b) (length old) asked r row) in
        refreshed_number w (get_or s r 0) (fresh_costs how from z w b r) (get_or left r []) fits inside (λ c. fresh_most how from z w b asked.long are r c) c column
        ∙ ap₂ (λ t n. cond t (fresh_costs how from z w b r c) n) (sym (which_changed (length b) (length old) asked r c row column)) (carried r c column)

    pub kept_numbers : (new : List ℕ) → numbers_of z.width z.height new ≡ table (refreshed_at how from z w b s (numbers_of z.width z.height closed)) z.height
        → fronts w (numbers_of z.width z.height new) ≡ refreshed (wrap_of how) (w + 1) z.height (fresh_costs how from z w b) s (fronts (w + 1) (numbers_of z.width z.height old))
    unfolding refreshed
    kept_numbers new new_is =
        let f : ℕ → List ℕ = refreshed_at how from z w b s left in
        let less : w + 1 - 1 ≡ w = omega arith in
        ap (fronts w) new_is
        ∙ fronts_table w f z.height
        ∙ rw less
        (table_same (λ r. take w (f r)) (λ r. table (λ c. cond (changed (wrap_of how) (w + 1) z.height s r c) (fresh_costs how from z w b r c) (number_at kept r (stood s r c))) w) z.height
        (λ r row. take_table (f r) w (omega (arith, row_wide closed long r row, asked.left))
        ∙ table_same (λ c. get_or (f r) c 0) (λ c. cond (changed (wrap_of how) (w + 1) z.height s r c) (fresh_costs how from z w b r c) (number_at kept r (stood s r c))) w (λ c column. one r c row column)))
