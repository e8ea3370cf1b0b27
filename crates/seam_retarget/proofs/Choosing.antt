-- A cell to which two ways lead, in the terms of the code: both seams found, the smaller total chosen, its seam cut.
use mathlib.Core.Path.{◌≡◌, refl, sym, ap, ap₂, ◌∙◌}
use mathlib.Core.Logic.{inl, inr, ⊎_elim}
use mathlib.Core.Bool.{true, false, cond}
use mathlib.Core.List.{List}
use Prim.Native.Nat.{ℕ, ◌+◌, ◌*◌, ◌≤◌, ◌<◌}
use native.Mathlib.Omega.{arith}
use borrow.Author.Tests.{le-leb, lt-leb}
use lib.Dec.{leb}
use lib.ListN.{length}
use Rattle.grids.proofs.Rows.{part_end}
use Rattle.pictures.specs.declared.sizes.Size.{Size}
use Rattle.pictures.specs.Refusals.{refusal}
use Rattle.pictures.specs.Pictures.{largest_side, picture_bytes, side_rules}
use Rattle.energy.specs.declared.methods.Method.{Method}
use Rattle.seam_moves.specs.Between.{part_at}
use Rattle.seam_rules.specs.declared.answers.Axis.{Axis}
use Rattle.seam_rules.specs.declared.answers.Axis.TheVariants.{Vertical, Horizontal}
use Rattle.seam_cut.specs.Axes.{seam_along, cost_along}
use Rattle.seam_turn.specs.Axes.{cut_along}
use Rattle.seam_retarget.specs.declared.table.Table.{Table}
use Rattle.seam_retarget.specs.declared.seams.Seam.{Seam}
use Rattle.seam_retarget.specs.Cells.{Cell, by_seam, chosen}
use Rattle.seam_rules.specs.Counts.{row_count, column_count, smaller}
use Rattle.seam_retarget.specs.Inner.Seams.{picture_at, left_along, SeamNeeded, SeamGiven, CutNeeded, CutGiven}
use Rattle.seam_retarget.specs.Inner.Cells.{SpaceNeeded, SeamOf, CellNeeded, CellGiven}
use Rattle.seam_retarget.proofs.Cuts.{turned_tall, found_inside, cut_is}
use Rattle.seam_retarget.proofs.Slots.{smaller-few, less-column, less-row, same_picture, slots_apart, double_few, placed-vertical, placed-horizontal, apart-vertical, apart-horizontal}
use Rattle.seam_rules.proofs.Left.{smaller-sides}

module _ (tab : Table) where
  abbrev z : Size
  z = tab.size.size

  abbrev how : Method
  how = tab.method

  abbrev whole : ℕ
  whole = tab.whole

  -- A seam found with a seam's space as long as the largest side.
  module _ (work : ℕ) (needed : SpaceNeeded tab work) (k r c n : ℕ) (slot : k < 65) (rows : r < z.height) (columns : c < z.width) (many : n ≡ largest_side) where
    sides : refusal (side_rules (smaller z r c)) ≡ 0
    sides = smaller-sides z r c tab.size.allowed rows columns

    pub seam-vertical : SeamNeeded work (k * whole) (smaller z r c) Vertical (65 * whole) n
    seam-vertical =
        let q = placed-vertical tab work needed k r c slot in
        record { places = q.here; room = q.room; seam_room = rw many (turned_tall Vertical (smaller z r c) sides) }

    pub seam-horizontal : SeamNeeded work (k * whole) (smaller z r c) Horizontal (67 * whole) n
    seam-horizontal =
        let q = placed-horizontal tab work needed k r c slot in
        record { places = q.here; room = q.room; seam_room = rw many (turned_tall Horizontal (smaller z r c) sides) }

  -- The space as it is after both seams were found.
  module _ {r c above left : ℕ} {work : List ℕ} (needed : CellNeeded tab (row_count r) (column_count c) above left (length work))
      {u v : Seam} (by-row : SeamOf tab (row_count r) (column_count (c + 1)) Horizontal u) (by-column : SeamOf tab (row_count (r + 1)) (column_count c) Vertical v)
      {seam₁ one across : List ℕ} {cost₁ : ℕ} (found₁ : SeamGiven work ((c + 1) * whole) u.size.size u.method u.axis u.at seam₁ cost₁ one across)
      {seam₂ two down : List ℕ} {cost₂ : ℕ} (found₂ : SeamGiven one (c * whole) v.size.size v.method v.axis v.at seam₂ cost₂ two down) where
    abbrev upper : Size
    upper = smaller z r (c + 1)

    abbrev beside : Size
    beside = smaller z (r + 1) c

    first : SeamGiven work ((c + 1) * whole) upper how Horizontal (67 * whole) seam₁ cost₁ one across
    first = rw (by-row.size_is, by-row.method_is, by-row.axis_is, by-row.at_is) at found₁

    second : SeamGiven one (c * whole) beside how Vertical (65 * whole) seam₂ cost₂ two down
    second = rw (by-column.size_is, by-column.method_is, by-column.axis_is, by-column.at_is) at found₂

    abbrev slot : ℕ
    slot = (c + 1) * whole

    upper-sides : refusal (side_rules upper) ≡ 0
    upper-sides = smaller-sides z r (c + 1) tab.size.allowed (omega (arith, needed.rows_left)) needed.columns_left

    beside-sides : refusal (side_rules beside) ≡ 0
    beside-sides = smaller-sides z (r + 1) c tab.size.allowed needed.rows_left (omega (arith, needed.columns_left))

    pub both_long : length two ≡ length work
    both_long = second.long ∙ first.long

    column : c < 65
    column = omega (arith, needed.column)

    -- The cell to the left is still there after the first.
    beside_still : picture_at beside (c * whole) one ≡ picture_at beside (c * whole) work
    beside_still =
        same_picture z whole (r + 1) c (c * whole) one work tab.whole_is
        (first.others (c * whole) whole (apart-horizontal tab (length work) needed.space c r (c + 1) column _ (double_few z whole r (c + 1) tab.whole_is)))

    -- And the picture turned for the first seam after the second.
    upper_still : part_at (67 * whole) (picture_bytes upper) two ≡ part_at (67 * whole) (picture_bytes upper) one
    upper_still = second.others (67 * whole) (picture_bytes upper) (inr (omega (arith, double_few z whole (r + 1) c tab.whole_is)))

    others_still : (k : ℕ) → k < 65 → part_at (k * whole) whole two ≡ part_at (k * whole) whole work
    others_still k l =
        second.others (k * whole) whole (apart-vertical tab (length work) needed.space k (r + 1) c l _ (double_few z whole (r + 1) c tab.whole_is))
        ∙ first.others (k * whole) whole (apart-horizontal tab (length work) needed.space k r (c + 1) l _ (double_few z whole r (c + 1) tab.whole_is))

    source : (c + 1) * whole + picture_bytes upper ≤ length work
    source = (placed-vertical tab (length work) needed.space (c + 1) r (c + 1) needed.column).here.from_inside

    source₂ : c * whole + picture_bytes beside ≤ length one
    source₂ = rw first.long (placed-vertical tab (length work) needed.space c (r + 1) c column).here.from_inside

    pub cut-vertical : length down ≡ largest_side → CutNeeded (length two) v.at v.size.size v.axis down slot
    cut-vertical many = rw (by-column.size_is, by-column.axis_is, by-column.at_is) record {
      wide = omega (arith, needed.columns_left);
      seam_room = rw many (turned_tall Vertical beside beside-sides);
      inside = found_inside one (c * whole) beside how Vertical (65 * whole) seam₂ cost₂ two down second beside-sides source₂;
      places = rw both_long (placed-vertical tab (length work) needed.space (c + 1) (r + 1) c needed.column).there;
    }

    pub cut-horizontal : length across ≡ largest_side → CutNeeded (length two) u.at u.size.size u.axis across slot
    cut-horizontal many = rw (by-row.size_is, by-row.axis_is, by-row.at_is) record {
      wide = omega (arith, needed.rows_left);
      seam_room = rw many (turned_tall Horizontal upper upper-sides);
      inside = found_inside work slot upper how Horizontal (67 * whole) seam₁ cost₁ one across first upper-sides source;
      places = rw both_long (placed-horizontal tab (length work) needed.space (c + 1) r (c + 1) needed.column).there;
    }

    -- The two cells to choose from.
    abbrev vertical : Cell
    vertical = by_seam how Vertical beside (record { picture = picture_at beside (c * whole) work; total = left })

    abbrev horizontal : Cell
    horizontal = by_seam how Horizontal upper (record { picture = picture_at upper slot work; total = above })

    total-vertical : left + cost₂ ≡ vertical.total
    unfolding by_seam
    total-vertical = ap (left +◌) (second.cost_is ∙ ap (cost_along how Vertical beside) beside_still)

    total-horizontal : above + cost₁ ≡ horizontal.total
    unfolding by_seam
    total-horizontal = ap (above +◌) first.cost_is

    others_kept : (at : ℕ) (t : Size) (three : List ℕ) (seam : List ℕ) (x : Axis) → picture_bytes t ≤ whole → 65 * whole ≤ at → CutGiven two at t x seam slot three
        → (k : ℕ) → k < 65 → (k ≡ c + 1 → ⊥) → part_at (k * whole) whole three ≡ part_at (k * whole) whole work
    others_kept at t three seam x few behind g k l other =
        g.others (k * whole) whole (inl (omega (arith, placed_end k l)))
        (⊎_elim (λ (h : k * whole + whole ≤ slot). inl h) (λ (h : slot + whole ≤ k * whole). inr (omega arith)) (slots_apart k (c + 1) whole other))
        ∙ others_still k l
      where
        placed_end : (k : ℕ) → k < 65 → k * whole + whole ≤ 65 * whole
        placed_end k l = part_end k 65 whole l

    module _ {three : List ℕ} (less : left + cost₂ ≤ above + cost₁) (given : CutGiven two v.at v.size.size v.axis down slot three) where
      g : CutGiven two (65 * whole) beside Vertical down slot three
      g = rw (by-column.size_is, by-column.axis_is, by-column.at_is) at given

      pub given-vertical : CellGiven tab (row_count r) (column_count c) above left work (left + cost₂) three
      unfolding chosen by_seam
      given-vertical =
          let cut : picture_at (left_along Vertical beside) slot three ≡ cut_along Vertical beside (seam_along how Vertical beside (picture_at beside (c * whole) one)) (picture_at beside (c * whole) one) =
          cut_is one (c * whole) beside how Vertical (65 * whole) seam₂ cost₂ two down second beside-sides source₂ two refl slot three (omega (arith, needed.columns_left)) g in
          let here : picture_at (smaller z (r + 1) (c + 1)) slot three ≡ vertical.picture =
          ap (λ u. picture_at u slot three) (sym (less-column z (r + 1) c)) ∙ cut ∙ ap (λ p. cut_along Vertical beside (seam_along how Vertical beside p) p) beside_still in
          let test : leb vertical.total horizontal.total ≡ true = le-leb _ _ (rw (total-vertical, total-horizontal) at less) in
          record {
            cell_is = ap₂ (λ p t. record { picture = p; total = t }) here total-vertical ∙ sym (ap (λ t. cond t vertical horizontal) test);
            small = omega (arith, less, first.cost_most);
            long = g.long ∙ both_long;
            others = others_kept (65 * whole) beside three down Vertical (omega (arith, smaller-few z (r + 1) c, tab.whole_is)) (omega arith) g;
          }

    module _ {three : List ℕ} (less : above + cost₁ < left + cost₂) (given : CutGiven two u.at u.size.size u.axis across slot three) where
      h : CutGiven two (67 * whole) upper Horizontal across slot three
      h = rw (by-row.size_is, by-row.axis_is, by-row.at_is) at given

      pub given-horizontal : CellGiven tab (row_count r) (column_count c) above left work (above + cost₁) three
      unfolding chosen by_seam
      given-horizontal =
          let cut : picture_at (left_along Horizontal upper) slot three ≡ cut_along Horizontal upper (seam_along how Horizontal upper (picture_at upper slot work)) (picture_at upper slot work) =
          cut_is work slot upper how Horizontal (67 * whole) seam₁ cost₁ one across first upper-sides source two upper_still slot three (omega (arith, needed.rows_left)) h in
          let here : picture_at (smaller z (r + 1) (c + 1)) slot three ≡ horizontal.picture =
          ap (λ u. picture_at u slot three) (sym (less-row z r (c + 1))) ∙ cut in
          let test : leb vertical.total horizontal.total ≡ false = lt-leb _ _ (rw (total-vertical, total-horizontal) at less) in
          record {
            cell_is = ap₂ (λ p t. record { picture = p; total = t }) here total-horizontal ∙ sym (ap (λ t. cond t vertical horizontal) test);
            small = omega (arith, first.cost_most);
            long = h.long ∙ both_long;
            others = others_kept (67 * whole) upper three across Horizontal (omega (arith, smaller-few z r (c + 1), tab.whole_is)) (omega arith) h;
          }
