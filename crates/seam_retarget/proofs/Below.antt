-- A row of the table below another, in the slots of the work space.
use mathlib.Core.Path.{◌≡◌, refl, sym, ap, ap₂, subst, ◌∙◌}
use mathlib.Core.List.{List}
use Prim.Native.Nat.{ℕ, zero, suc, ◌+◌, ◌*◌, ◌≤◌, ◌<◌}
use native.Mathlib.Nat.{zero-mul}
use native.Mathlib.Numerals.{add-one}
use native.Mathlib.Omega.{arith}
use lib.ListN.{length, get_or, set, length-set}
use lib.Seq.{get_or-set_same, get_or-set_other}
use Rattle.pictures.specs.declared.sizes.Size.{Size}
use Rattle.energy.specs.declared.methods.Method.{Method}
use Rattle.seam_moves.specs.Between.{part_at}
use Rattle.seam_rules.specs.declared.answers.Axis.TheVariants.{Vertical, Horizontal}
use Rattle.seam_retarget.specs.declared.table.Table.{Table}
use Rattle.seam_retarget.specs.Cells.{Cell, by_seam, chosen}
use Rattle.seam_rules.specs.Counts.{row_count, column_count, smaller}
use Rattle.seam_retarget.specs.Inner.Seams.{picture_at, StepNeeded, StepGiven}
use Rattle.seam_retarget.specs.Inner.Table.{largest_total, held, along_row, next_row, row_below, RowGiven, RestOfRowNeeded, NextRowNeeded}
use Rattle.seam_retarget.specs.Inner.Cells.{CellGiven}
use Rattle.seam_retarget.proofs.Slots.{less-row, same_picture, placed-horizontal}
use Rattle.seam_retarget.proofs.Sweep.{along-same, next-same, held_new, held-other, set_small, step-cell, slot_kept, up_to}

-- The row below row r up to column j; after it stands row r.
pub record RestSoFar (tab : Table) (r c : ℕ) (work₀ totals₀ : List ℕ) (j : ℕ) (work totals : List ℕ) : Type 0 where
  pub inside : j ≤ c
  pub long : length work ≡ length work₀
  pub totals_long : length totals ≡ 65
  pub cells_are : (k : ℕ) → k ≤ j → held tab (row_count (r + 1)) work totals k ≡ along_row tab.method tab.size.size (row_count r) (held tab (row_count (r + 1)) work₀ totals₀ 0) (held tab (row_count r) work₀ totals₀) k
  pub small : (k : ℕ) → get_or totals k 0 ≤ largest_total (r + 1)
  pub later : (k : ℕ) → j < k → k < 65 → part_at (k * tab.whole) tab.whole work ≡ part_at (k * tab.whole) tab.whole work₀
  pub later_totals : (k : ℕ) → j < k → get_or totals k 0 ≡ get_or totals₀ k 0

module _ (tab : Table) where
  abbrev z : Size
  z = tab.size.size

  abbrev how : Method
  how = tab.method

  abbrev whole : ℕ
  whole = tab.whole

  module _ (r c : ℕ) (work₀ totals₀ : List ℕ) (needed : RestOfRowNeeded tab (row_count r) (column_count c) work₀ totals₀) (many : length totals₀ ≡ 65) where
    abbrev above : ℕ → Cell
    above = held tab (row_count r) work₀ totals₀

    all_small : (k : ℕ) → get_or totals₀ k 0 ≤ largest_total (r + 1)
    all_small zero = needed.first_small
    all_small (suc k) = omega (arith, needed.others_small (suc k) (omega arith))

    pub rest_start : RestSoFar tab r c work₀ totals₀ 0 work₀ totals₀
    unfolding along_row
    rest_start = record {
      inside = omega arith;
      long = refl;
      totals_long = many;
      cells_are = λ k h. let e : 0 ≡ k = omega arith in subst (λ i. held tab (row_count (r + 1)) work₀ totals₀ i ≡ along_row how z (row_count r) (held tab (row_count (r + 1)) work₀ totals₀ 0) (held tab (row_count r) work₀ totals₀) i) e refl;
      small = all_small;
      later = λ k h l. refl;
      later_totals = λ k h. refl;
    }

    module _ (j : ℕ) (work totals : List ℕ) (inside : j < c) (so_far : RestSoFar tab r c work₀ totals₀ j work totals) where
      upper-small : get_or totals (j + 1) 0 ≤ largest_total r
      upper-small = rw (so_far.later_totals (j + 1) (omega arith)) (needed.others_small (j + 1) (omega arith))

      pub rest-turn : (v : ℕ) (work' : List ℕ) → CellGiven tab (row_count r) (column_count j) (get_or totals (j + 1) 0) (get_or totals j 0) work v work'
          → RestSoFar tab r c work₀ totals₀ (j + 1) work' (set totals (j + 1) v)
      unfolding along_row
      rest-turn v work' g =
          let upper : held tab (row_count r) work totals (j + 1) ≡ held tab (row_count r) work₀ totals₀ (suc j) =
          ap₂ (λ p t. record { picture = p; total = t })
          (same_picture z whole r (j + 1) ((j + 1) * whole) work work₀ tab.whole_is (so_far.later (j + 1) (omega arith) (omega (arith, needed.fits.column))))
          (so_far.later_totals (j + 1) (omega arith))
          ∙ ap (held tab (row_count r) work₀ totals₀) (add-one j) in
          record {
            inside = omega arith;
            long = g.long ∙ so_far.long;
            totals_long = length-set totals (j + 1) v ∙ so_far.totals_long;
            cells_are = up_to {P = λ k. held tab (row_count (r + 1)) work' (set totals (j + 1) v) k ≡ along_row how z (row_count r) (held tab (row_count (r + 1)) work₀ totals₀ 0) (held tab (row_count r) work₀ totals₀) k} j
                (λ k h.
                held-other tab (r + 1) (j + 1) v work' totals work k (λ e. omega arith) (g.others k (omega (arith, needed.fits.column)) (λ e. omega arith))
                ∙ so_far.cells_are k h)
                (held_new tab (r + 1) (j + 1) v work' totals (omega (arith, so_far.totals_long, needed.fits.column))
                ∙ g.cell_is
                ∙ ap₂ chosen
                (ap₂ (λ n (left : Cell). by_seam how Vertical (smaller z n j) left) (add-one r) (so_far.cells_are j (omega arith)))
                (ap₂ (λ n (up : Cell). by_seam how Horizontal (smaller z r n) up) (add-one j) upper)
                ∙ ap (along_row how z (row_count r) (held tab (row_count (r + 1)) work₀ totals₀ 0) (held tab (row_count r) work₀ totals₀)) (sym (add-one j)));
            small = set_small totals (j + 1) v (largest_total (r + 1)) so_far.small (omega (arith, g.small, upper-small));
            later = λ k h l. g.others k l (λ e. omega arith) ∙ so_far.later k (omega arith) l;
            later_totals = λ k h. get_or-set_other totals (j + 1) k v 0 (λ e. omega arith) ∙ so_far.later_totals k (omega arith);
          }

  -- A row below row r, whose first cell comes by a step from slot 0 to slot 0.
  module _ (r c : ℕ) (work totals : List ℕ) (needed : NextRowNeeded tab (row_count r) (column_count c) work totals) (many : length totals ≡ 65) where
    pub next_step_lem : StepNeeded (length work) 0 (smaller z r 0) Horizontal (67 * whole) 0
    next_step_lem =
        let q = placed-horizontal tab (length work) needed.fits.space 0 r 0 (omega arith) in
        subst (λ at. StepNeeded (length work) at (smaller z r 0) Horizontal (67 * whole) at) (zero-mul whole)
        (record {
          wide = omega (arith, needed.fits.rows_left);
          source = q.here;
          room = q.room;
          target = q.there;
        })

    module _ (cost : ℕ) (one : List ℕ) (g : StepGiven work 0 (smaller z r 0) how Horizontal (67 * whole) 0 cost one) where
      pub next_needed : RestOfRowNeeded tab (row_count r) (column_count c) one (set totals 0 (get_or totals 0 0 + cost))
      next_needed = record {
        fits = record {
          space = rw g.long needed.fits.space;
          rows_left = needed.fits.rows_left;
          row = needed.fits.row;
          columns_left = needed.fits.columns_left;
          column = needed.fits.column;
        };
        first_small = rw (get_or-set_same totals 0 (get_or totals 0 0 + cost) 0 (omega (arith, many))) (omega (arith, needed.small 0, g.cost_most));
        others_small = λ j h. rw (get_or-set_other totals 0 j (get_or totals 0 0 + cost) 0 (λ e. omega arith)) (needed.small j);
      }

      first_is : held tab (row_count (r + 1)) one (set totals 0 (get_or totals 0 0 + cost)) 0 ≡ by_seam how Horizontal (smaller z r 0) (held tab (row_count r) work totals 0)
      first_is =
          held_new tab (r + 1) 0 (get_or totals 0 0 + cost) one totals (omega (arith, many))
          ∙ ap₂ (λ u at. record { picture = picture_at u at one; total = get_or totals 0 0 + cost }) (sym (less-row z r 0)) (zero-mul whole)
          ∙ step-cell work 0 (smaller z r 0) how Horizontal (67 * whole) 0 cost one (get_or totals 0 0) g
          ∙ ap (λ at. by_seam how Horizontal (smaller z r 0) (record { picture = picture_at (smaller z r 0) at work; total = get_or totals 0 0 })) (sym (zero-mul whole))

      others-are : (j : ℕ) → j ≤ c → 0 < j → held tab (row_count r) one (set totals 0 (get_or totals 0 0 + cost)) j ≡ held tab (row_count r) work totals j
      others-are j h some =
          held-other tab r 0 (get_or totals 0 0 + cost) one totals work j (λ e. omega arith)
          (slot_kept z how whole work one tab.whole_is 0 r 0 Horizontal 67 0 cost (omega arith) (subst (λ at. StepGiven work 0 (smaller z r 0) how Horizontal (67 * whole) at cost one) (sym (zero-mul whole)) g) j (omega (arith, needed.fits.column)) (λ e. omega arith))

      pub next_given : (two totals' : List ℕ)
          → RowGiven tab (row_count (r + 1)) (column_count c) (along_row how z (row_count r) (held tab (row_count (r + 1)) one (set totals 0 (get_or totals 0 0 + cost)) 0) (held tab (row_count r) one (set totals 0 (get_or totals 0 0 + cost)))) one two totals'
          → RowGiven tab (row_count (r + 1)) (column_count c) (next_row how z (row_count r) (held tab (row_count r) work totals)) work two totals'
      next_given two totals' row = record {
        cells_are = λ j h. row.cells_are j h
            ∙ along-same how z r c (held tab (row_count (r + 1)) one (set totals 0 (get_or totals 0 0 + cost)) 0) (by_seam how Horizontal (smaller z r 0) (held tab (row_count r) work totals 0))
            (held tab (row_count r) one (set totals 0 (get_or totals 0 0 + cost))) (held tab (row_count r) work totals) first_is others-are j h;
        small = row.small;
        long = row.long ∙ g.long;
      }

-- Row r from the first row.
module _ (tab : Table) (c : ℕ) (work₀ totals₀ : List ℕ) where
  pub below_turn : (r : ℕ) (work totals work' totals' : List ℕ)
      → RowGiven tab (row_count r) (column_count c) (row_below tab.method tab.size.size (held tab (row_count 0) work₀ totals₀) r) work₀ work totals
      → RowGiven tab (row_count (r + 1)) (column_count c) (next_row tab.method tab.size.size (row_count r) (held tab (row_count r) work totals)) work work' totals'
      → RowGiven tab (row_count (r + 1)) (column_count c) (row_below tab.method tab.size.size (held tab (row_count 0) work₀ totals₀) (r + 1)) work₀ work' totals'
  unfolding row_below
  below_turn r work totals work' totals' so_far row = record {
    cells_are = λ j h. row.cells_are j h
        ∙ next-same tab.method tab.size.size r c (held tab (row_count r) work totals) (row_below tab.method tab.size.size (held tab (row_count 0) work₀ totals₀) r) so_far.cells_are j h
        ∙ ap (λ n. row_below tab.method tab.size.size (held tab (row_count 0) work₀ totals₀) n j) (sym (add-one r));
    small = row.small;
    long = row.long ∙ so_far.long;
  }

  pub below_start : ((j : ℕ) → get_or totals₀ j 0 ≤ largest_total 0) → RowGiven tab (row_count 0) (column_count c) (row_below tab.method tab.size.size (held tab (row_count 0) work₀ totals₀) 0) work₀ work₀ totals₀
  unfolding row_below
  below_start small = record { cells_are = λ j h. refl; small = small; long = refl }
