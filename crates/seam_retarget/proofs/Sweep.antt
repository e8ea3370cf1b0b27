-- The table's rows in the slots of the work space: what one cell more, and one row more, leave.
use mathlib.Core.Path.{◌≡◌, refl, sym, ap, ap₂, subst, ◌∙◌}
use mathlib.Core.Logic.{◌⊎◌, inl, inr, ⊎_elim}
use mathlib.Core.List.{List}
use Prim.Native.Nat.{ℕ, zero, suc, ◌+◌, ◌*◌, ◌≤◌, ◌<◌}
use native.Mathlib.Nat.{eq-or-lt_of_le}
use native.Mathlib.Numerals.{add-one}
use native.Mathlib.Omega.{arith}
use lib.ListN.{length, get_or, set, length-set}
use lib.Seq.{get_or-set_same, get_or-set_other, set_out}
use Rattle.grids.proofs.Orders.{le-or-lt}
use Rattle.grids.proofs.Rows.{part_end}
use Rattle.pictures.specs.declared.sizes.Size.{Size}
use Rattle.pictures.specs.Pictures.{Picture, picture_bytes}
use Rattle.energy.specs.declared.methods.Method.{Method}
use Rattle.energy.specs.Bounds.{most_cost}
use Rattle.seam_moves.specs.Between.{part_at}
use Rattle.seam_rules.specs.declared.answers.Axis.{Axis}
use Rattle.seam_rules.specs.declared.answers.Axis.TheVariants.{Vertical, Horizontal}
use Rattle.seam_retarget.specs.declared.table.Table.{Table}
use Rattle.seam_retarget.specs.Cells.{Cell, by_seam, chosen}
use Rattle.seam_rules.specs.Counts.{row_count, column_count, smaller}
use Rattle.seam_retarget.specs.Inner.Seams.{picture_at, left_along, StepNeeded, StepGiven}
use Rattle.seam_retarget.specs.Inner.Cells.{SpaceNeeded}
use Rattle.seam_retarget.specs.Inner.Table.{held, first_row, along_row, next_row, row_below, FirstRowNeeded}
use Rattle.seam_retarget.proofs.Numbered.{cell_at}
use Rattle.seam_retarget.proofs.Slots.{smaller-few, less-column, same_picture, slots_apart, placed-vertical}

-- The rows are those of the table of cells.
pub first_cells : (how : Method) (z : Size) (p : Picture) (c : ℕ) → first_row how z (cell_at how z p 0 0) c ≡ cell_at how z p 0 c
unfolding first_row cell_at
first_cells how z p zero = refl
first_cells how z p (suc c) = ap (by_seam how Vertical (smaller z 0 c)) (first_cells how z p c)

-- A row depends on the cells up to its column alone.
pub along-same : (how : Method) (z : Size) (r n : ℕ) (u v : Cell) (f g : ℕ → Cell) → u ≡ v → ((j : ℕ) → j ≤ n → 0 < j → f j ≡ g j) → (c : ℕ) → c ≤ n → along_row how z (row_count r) u f c ≡ along_row how z (row_count r) v g c
unfolding along_row
along-same how z r n u v f g first same zero h = first
along-same how z r n u v f g first same (suc c) h =
    ap₂ chosen
    (ap (by_seam how Vertical (smaller z (suc r) c)) (along-same how z r n u v f g first same c (omega arith)))
    (ap (by_seam how Horizontal (smaller z r (suc c))) (same (suc c) h (omega arith)))

pub next-same : (how : Method) (z : Size) (r n : ℕ) (f g : ℕ → Cell) → ((j : ℕ) → j ≤ n → f j ≡ g j) → (c : ℕ) → c ≤ n → next_row how z (row_count r) f c ≡ next_row how z (row_count r) g c
next-same how z r n f g same = along-same how z r n _ _ f g (ap (by_seam how Horizontal (smaller z r 0)) (same 0 (omega arith))) (λ j h l. same j h)

along_cells : (how : Method) (z : Size) (p : Picture) (r c : ℕ) → along_row how z (row_count r) (cell_at how z p (suc r) 0) (cell_at how z p r) c ≡ cell_at how z p (suc r) c
unfolding along_row cell_at
along_cells how z p r zero = refl
along_cells how z p r (suc c) =
    ap (λ (left : Cell). chosen (by_seam how Vertical (smaller z (suc r) c) left) (by_seam how Horizontal (smaller z r (suc c)) (cell_at how z p r (suc c)))) (along_cells how z p r c)

pub table_cells : (how : Method) (z : Size) (p : Picture) (n : ℕ) (first : ℕ → Cell) → ((j : ℕ) → j ≤ n → first j ≡ cell_at how z p 0 j)
    → (r c : ℕ) → c ≤ n → row_below how z first r c ≡ cell_at how z p r c
unfolding row_below cell_at
table_cells how z p n first same zero c h = same c h
table_cells how z p n first same (suc r) c h =
    next-same how z r n (row_below how z first r) (cell_at how z p r) (table_cells how z p n first same r) c h ∙ along_cells how z p r c

-- A cell written into slot j, with its total; the others are as they were.
module _ (tab : Table) (r j v : ℕ) (work' totals : List ℕ) where
  pub held_new : j < length totals → held tab (row_count r) work' (set totals j v) j ≡ record { picture = picture_at (smaller tab.size.size r j) (j * tab.whole) work'; total = v }
  held_new h = ap (λ t. record { picture = picture_at (smaller tab.size.size r j) (j * tab.whole) work'; total = t }) (get_or-set_same totals j v 0 h)

  pub held-other : (work : List ℕ) (k : ℕ) → (k ≡ j → ⊥) → part_at (k * tab.whole) tab.whole work' ≡ part_at (k * tab.whole) tab.whole work
      → held tab (row_count r) work' (set totals j v) k ≡ held tab (row_count r) work totals k
  held-other work k other same =
      ap₂ (λ p t. record { picture = p; total = t }) (same_picture tab.size.size tab.whole r k (k * tab.whole) work' work tab.whole_is same) (get_or-set_other totals j k v 0 other)

-- A total stored, under a bound of all.
pub set_small : (totals : List ℕ) (j v most : ℕ) → ((k : ℕ) → get_or totals k 0 ≤ most) → v ≤ most → (k : ℕ) → get_or (set totals j v) k 0 ≤ most
set_small totals j v most small fits k =
    ⊎_elim
    (λ (l : k ≤ j). ⊎_elim (λ (e : k ≡ j). here k e) (λ (h : k < j). other k (λ e. omega arith)) (eq-or-lt_of_le l))
    (λ (l : j < k). other k (λ e. omega arith))
    (le-or-lt k j)
  where
    other : (k : ℕ) → (k ≡ j → ⊥) → get_or (set totals j v) k 0 ≤ most
    other k n = rw (get_or-set_other totals j k v 0 n) (small k)

    here : (k : ℕ) → k ≡ j → get_or (set totals j v) k 0 ≤ most
    here k e = rw e (inside (le-or-lt (length totals) j))
      where
        inside : (length totals ≤ j) ⊎ (j < length totals) → get_or (set totals j v) j 0 ≤ most
        inside (inl l) = rw (set_out totals j v l) (small j)
        inside (inr l) = rw (get_or-set_same totals j v 0 l) fits

-- A step along an axis gives the cell by its seam.
pub step-cell : (work : List ℕ) (from : ℕ) (z : Size) (how : Method) (x : Axis) (at to cost : ℕ) (work' : List ℕ) (t : ℕ) → StepGiven work from z how x at to cost work'
    → record { picture = picture_at (left_along x z) to work'; total = t + cost } ≡ by_seam how x z (record { picture = picture_at z from work; total = t })
unfolding by_seam
step-cell work from z how x at to cost work' t g = ap₂ (λ p n. record { picture = p; total = n }) g.picture_is (ap (t +◌) g.cost_is)

-- Both a slot and a place for work are out of the way of another slot.
pub slot_kept : (z : Size) (how : Method) (whole : ℕ) (work work' : List ℕ) → whole ≡ picture_bytes z → (from : ℕ) (r c : ℕ) (x : Axis) (p j cost : ℕ) → 65 ≤ p
    → StepGiven work from (smaller z r c) how x (p * whole) (j * whole) cost work'
    → (k : ℕ) → k < 65 → (k ≡ j → ⊥) → part_at (k * whole) whole work' ≡ part_at (k * whole) whole work
slot_kept z how whole work work' is from r c x p j cost behind g k l other =
    let few : picture_bytes (smaller z r c) ≤ whole = rw is (smaller-few z r c) in
    g.others (k * whole) whole (inl (omega (arith, part_end k p whole (omega arith))))
    (⊎_elim (λ (h : k * whole + whole ≤ j * whole). inl h) (λ (h : j * whole + whole ≤ k * whole). inr (omega arith)) (slots_apart k j whole other))

-- The first row up to column j.
pub record FirstSoFar (tab : Table) (c : ℕ) (work₀ totals₀ : List ℕ) (j : ℕ) (work totals : List ℕ) : Type 0 where
  pub inside : j ≤ c
  pub long : length work ≡ length work₀
  pub totals_long : length totals ≡ 65
  pub cells_are : (k : ℕ) → k ≤ j → held tab (row_count 0) work totals k ≡ first_row tab.method tab.size.size (held tab (row_count 0) work₀ totals₀ 0) k
  pub small : (k : ℕ) → get_or totals k 0 ≤ j * most_cost

-- An index up to one more is the one more or is not.
pub up_to : {P : ℕ → Type 0} (j : ℕ) → ((k : ℕ) → k ≤ j → P k) → P (j + 1) → (k : ℕ) → k ≤ j + 1 → P k
up_to {P} j earlier last k h =
    ⊎_elim
    (λ (l : k ≤ j). earlier k l)
    (λ (l : j < k). let e : j + 1 ≡ k = omega arith in subst P e last)
    (le-or-lt k j)

module _ (tab : Table) (c : ℕ) (work₀ totals₀ : List ℕ) (needed : FirstRowNeeded tab (column_count c) work₀ totals₀) (many : length totals₀ ≡ 65) where
  abbrev z : Size
  z = tab.size.size

  abbrev how : Method
  how = tab.method

  abbrev whole : ℕ
  whole = tab.whole

  pub first_start : FirstSoFar tab c work₀ totals₀ 0 work₀ totals₀
  unfolding first_row
  first_start = record {
    inside = omega arith;
    long = refl;
    totals_long = many;
    cells_are = λ k h. let e : 0 ≡ k = omega arith in subst (λ i. held tab (row_count 0) work₀ totals₀ i ≡ first_row how z (held tab (row_count 0) work₀ totals₀ 0) i) e refl;
    small = λ k. omega (arith, needed.none k);
  }

  module _ (j : ℕ) (work totals : List ℕ) (inside : j < c) (so_far : FirstSoFar tab c work₀ totals₀ j work totals) where
    space : SpaceNeeded tab (length work)
    space = rw so_far.long needed.fits.space

    pub first_step : StepNeeded (length work) (j * whole) (smaller z 0 j) Vertical (65 * whole) ((j + 1) * whole)
    first_step = record {
      wide = omega (arith, needed.fits.columns_left);
      source = (placed-vertical tab (length work) space j 0 j (omega (arith, needed.fits.column))).here;
      room = (placed-vertical tab (length work) space j 0 j (omega (arith, needed.fits.column))).room;
      target = (placed-vertical tab (length work) space (j + 1) 0 j (omega (arith, needed.fits.column))).there;
    }

    pub first-turn : (cost : ℕ) (work' : List ℕ) → StepGiven work (j * whole) (smaller z 0 j) how Vertical (65 * whole) ((j + 1) * whole) cost work'
        → FirstSoFar tab c work₀ totals₀ (j + 1) work' (set totals (j + 1) (get_or totals j 0 + cost))
    unfolding first_row
    first-turn cost work' g =
        let v = get_or totals j 0 + cost in
        let F = first_row how z (held tab (row_count 0) work₀ totals₀ 0) in
        record {
          inside = omega arith;
          long = g.long ∙ so_far.long;
          totals_long = length-set totals (j + 1) v ∙ so_far.totals_long;
          cells_are = up_to {P = λ k. held tab (row_count 0) work' (set totals (j + 1) (get_or totals j 0 + cost)) k ≡ first_row how z (held tab (row_count 0) work₀ totals₀ 0) k} j
              (λ k h.
              held-other tab 0 (j + 1) v work' totals work k (λ e. omega arith)
              (slot_kept z how whole work work' tab.whole_is (j * whole) 0 j Vertical 65 (j + 1) cost (omega arith) g k (omega (arith, needed.fits.column)) (λ e. omega arith))
              ∙ so_far.cells_are k h)
              (held_new tab 0 (j + 1) v work' totals (omega (arith, so_far.totals_long, needed.fits.column))
              ∙ ap (λ u. record { picture = picture_at u ((j + 1) * whole) work'; total = v }) (sym (less-column z 0 j))
              ∙ step-cell work (j * whole) (smaller z 0 j) how Vertical (65 * whole) ((j + 1) * whole) cost work' (get_or totals j 0) g
              ∙ ap (by_seam how Vertical (smaller z 0 j)) (so_far.cells_are j (omega arith))
              ∙ ap (first_row how z (held tab (row_count 0) work₀ totals₀ 0)) (sym (add-one j)));
          small = set_small totals (j + 1) v ((j + 1) * most_cost) (λ k. omega (arith, so_far.small k)) (omega (arith, so_far.small j, g.cost_most));
        }
