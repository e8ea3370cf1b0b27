-- The whole operation: what the rules say of counts and buffers, and the answer read from the last slot.
use mathlib.Core.Path.{◌≡◌, refl, sym, ap, ap₂, ◌∙◌}
use mathlib.Core.Bool.{cond}
use mathlib.Core.List.{List, [], ◌∷◌, ◌++◌}
use Prim.Native.Nat.{ℕ, zero, suc, ◌+◌, ◌-◌, ◌*◌, ◌≤◌}
use native.Mathlib.Nat.{zero-mul, add-sub_cancel_left}
use native.Mathlib.Omega.{arith}
use lib.Dec.{leb, ltb}
use borrow.Author.Tests.{ltb-false, leb-false}
use borrow.Rule.Slice.PartMut.{mid_of}
use lib.ListN.{length, get_or, take, drop, replicate, length-append, length-drop}
use lib.Seq.{take_at}
use Rattle.grids.proofs.Rows.{part_end}
use Rattle.pictures.specs.declared.sizes.Size.{Size}
use Rattle.pictures.specs.Refusals.{◌when◌, refusal}
use Rattle.pictures.specs.Pictures.{picture_bytes, size_rules, picture, bytes}
use Rattle.pictures.proofs.Rules.{served-both, passed}
use Rattle.pictures.proofs.Limits.{Sized, sized_is, bytes-few}
use Rattle.pictures.proofs.Samples.{AreBytes, take_bytes, drop_bytes}
use Rattle.pictures.proofs.Buffers.{bytes-picture}
use Rattle.energy.specs.declared.methods.Method.{Method}
use Rattle.seam_moves.specs.Between.{part_at}
use Rattle.seam_moves.proofs.Places.{length_part}
use Rattle.seam_rules.specs.declared.answers.Rows.{Rows}
use Rattle.seam_rules.specs.declared.answers.Columns.{Columns}
use Rattle.seam_rules.specs.Counts.{row_count, smaller, left_size, retarget_bytes, retarget_rules}
use Rattle.seam_retarget.specs.declared.table.Table.{Table}
use Rattle.seam_retarget.specs.Retargeting.{cell_of}
use Rattle.seam_retarget.specs.Inner.Seams.{picture_at}
use Rattle.seam_retarget.specs.Inner.Cells.{SpaceNeeded}
use Rattle.seam_retarget.specs.Inner.Table.{held, first_row, table_row, RowGiven, FirstRowNeeded, RowsBelowNeeded}
use Rattle.seam_retarget.specs.Inner.Retargets.{RetargetNeeded, LastGiven}
use Rattle.seam_retarget.proofs.Numbered.{cell_at, cell-numbers}
use Rattle.seam_retarget.proofs.Slots.{smaller-few}
use Rattle.seam_retarget.proofs.Sweep.{first_cells, table_cells}

-- Counts and buffers of which nothing is refused.
pub needed_are : (b : List ℕ) (z : Size) (rows : Rows) (columns : Columns) (out work : List ℕ)
    → refusal (retarget_rules z rows columns (length b) (length out) (length work)) ≡ 0 → RetargetNeeded b z rows columns out work
needed_are b z rows columns out work e =
    let parts = served-both (size_rules z (length b))
    (7 when ltb 64 rows.0 ∷ 7 when ltb 64 columns.0 ∷ 7 when leb z.height rows.0 ∷ 7 when leb z.width columns.0
    ∷ 8 when ltb (length out) (picture_bytes (left_size z rows columns)) ∷ 8 when ltb (length work) (retarget_bytes z) ∷ []) refl e in
    let last : ℕ = cond (ltb (length work) (retarget_bytes z)) 8 0 in
    let fifth : ℕ = cond (ltb (length out) (picture_bytes (left_size z rows columns))) 8 last in
    let fourth : ℕ = cond (leb z.width columns.0) 7 fifth in
    let third : ℕ = cond (leb z.height rows.0) 7 fourth in
    let second : ℕ = cond (ltb 64 columns.0) 7 third in
    let p1 = passed (ltb 64 rows.0) 6 second parts.1 in
    let p2 = passed (ltb 64 columns.0) 6 third p1.1 in
    let p3 = passed (leb z.height rows.0) 6 fourth p2.1 in
    let p4 = passed (leb z.width columns.0) 6 fifth p3.1 in
    let p5 = passed (ltb (length out) (picture_bytes (left_size z rows columns))) 7 last p4.1 in
    let p6 = passed (ltb (length work) (retarget_bytes z)) 7 0 p5.1 in
    record {
      sized = parts.0;
      rows_few = ltb-false _ _ p1.0;
      columns_few = ltb-false _ _ p2.0;
      rows_left = leb-false _ _ p3.0;
      columns_left = leb-false _ _ p4.0;
      out_room = ltb-false _ _ p5.0;
      work_room = ltb-false _ _ p6.0;
    }

pub no_totals : (n j : ℕ) → ◌≡◌ {A = ℕ} (get_or (replicate n 0) j 0) 0
no_totals zero j = refl
no_totals (suc n) zero = refl
no_totals (suc n) (suc j) = no_totals n j

-- The table of the picture of the bytes b.
module _ (tab : Table) (b : List ℕ) (is : tab.whole ≡ length b) (rows : Rows) (columns : Columns) (out work : List ℕ) (needed : RetargetNeeded b tab.size.size rows columns out work) where
  abbrev z : Size
  z = tab.size.size

  abbrev how : Method
  how = tab.method

  abbrev whole : ℕ
  whole = tab.whole

  abbrev r : ℕ
  r = rows.0

  abbrev c : ℕ
  c = columns.0

  sized : Sized z (length b)
  sized = sized_is z (length b) needed.sized

  space : SpaceNeeded tab (length work)
  space = record { room = omega (arith, is, sized.length_is, bytes-few z, needed.work_room) }

  pub record LastSure (count : ℕ) : Type 0 where
    pub fits : length b ≤ length work
    pub slot : c * whole + whole ≤ 65 * whole
    pub count_most : count ≤ length b
    pub inside : c * whole + count ≤ length work

  pub last_sure : (count : ℕ) → count ≡ picture_bytes (left_size z rows columns) → LastSure count
  last_sure count e =
      let slot = part_end columns.0 65 whole (omega (arith, needed.columns_few)) in
      let few : count ≤ length b = omega (arith, sized.length_is, smaller-few z rows.0 columns.0) in
      record {
        fits = omega (arith, space.room);
        slot = slot;
        count_most = few;
        inside = omega (arith, space.room);
      }

  module _ (one : List ℕ) (copied : one ≡ b ++ drop (length b) work) where
    pub one-long : length one ≡ length work
    one-long = ap length copied ∙ simp (length-append, length-drop) (omega (arith, space.room))

    pub first-needed : (totals : List ℕ) → ((j : ℕ) → get_or totals j 0 ≡ 0) → FirstRowNeeded tab columns one totals
    first-needed totals none = record {
      fits = record {
        space = rw one-long space;
        rows_left = sized.height_some;
        row = omega arith;
        columns_left = needed.columns_left;
        column = omega (arith, needed.columns_few);
      };
      none = none;
    }

    first_is : (totals : List ℕ) → ((j : ℕ) → get_or totals j 0 ≡ 0) → held tab (row_count 0) one totals 0 ≡ cell_at how z (picture z b) 0 0
    unfolding cell_at
    first_is totals none =
        let zero-less : smaller z 0 0 ≡ z = ap₂ (λ w h. record { width = w; height = h; kind = z.kind }) (omega arith) (omega arith) in
        let front : take (picture_bytes z) one ≡ b = ap₂ take (sym sized.length_is) copied ∙ take_at b (drop (length b) work) (length b) refl in
        ap₂ (λ p t. record { picture = p; total = t })
        (ap₂ (λ u at. picture_at u at one) zero-less (zero-mul whole) ∙ ap (picture z) front)
        (none 0)

    module _ (totals two totals₂ : List ℕ) (none : (j : ℕ) → get_or totals j 0 ≡ 0)
        (row : RowGiven tab (row_count 0) columns (first_row how z (held tab (row_count 0) one totals 0)) one two totals₂) where
      pub below-needed : RowsBelowNeeded tab rows columns two totals₂
      below-needed = record {
        fits = record {
          space = rw (row.long ∙ one-long) space;
          rows_left = needed.rows_left;
          row = omega (arith, needed.rows_few);
          columns_left = needed.columns_left;
          column = omega (arith, needed.columns_few);
        };
        small = row.small;
      }

      module _ (three totals₃ : List ℕ) (last : RowGiven tab rows columns (table_row how z (held tab (row_count 0) two totals₂) rows) two three totals₃) where
        pub three-long : length three ≡ length work
        three-long = last.long ∙ row.long ∙ one-long

        cell_is : held tab rows three totals₃ columns.0 ≡ cell_of how z b rows columns
        cell_is =
            last.cells_are columns.0 (omega arith)
            ∙ table_cells how z (picture z b) columns.0 (held tab (row_count 0) two totals₂)
            (λ j h. row.cells_are j h ∙ ap (λ k. first_row how z k j) (first_is totals none) ∙ first_cells how z (picture z b) j)
            rows.0 columns.0 (omega arith)
            ∙ sym (cell-numbers how z (picture z b) rows columns)

        module _ (count : ℕ) (count_is : count ≡ picture_bytes (left_size z rows columns)) where
          abbrev part : List ℕ
          part = mid_of (columns.0 * whole) (columns.0 * whole + count - columns.0 * whole) three

          part-is : part ≡ part_at (columns.0 * whole) (picture_bytes (left_size z rows columns)) three
          part-is = ap (λ n. take n (drop (columns.0 * whole) three)) (add-sub_cancel_left (columns.0 * whole) count ∙ count_is)

          pub part-long : length part ≡ count
          part-long =
              ap length part-is
              ∙ length_part (columns.0 * whole) (picture_bytes (left_size z rows columns)) three (omega (arith, three-long, (last_sure count count_is).inside)) ∙ sym count_is

          pub served : AreBytes three → (out' four : List ℕ) → out' ≡ part ++ drop count out → four ≡ replicate (length three) 0
              → LastGiven b z how rows columns out work (get_or totals₃ columns.0 0) out' four
          served small out' four out_is four_is =
              let left = left_size z rows columns in
              let shown : part ≡ bytes z.kind (cell_of how z b rows columns).picture =
              part-is
              ∙ sym (bytes-picture left (part_at (columns.0 * whole) (picture_bytes left) three) (sym (ap length part-is) ∙ part-long ∙ count_is)
              (take_bytes (picture_bytes left) (drop (columns.0 * whole) three) (drop_bytes (columns.0 * whole) three small)))
              ∙ ap (λ k. bytes z.kind k.picture) cell_is in
              record {
                total = ap (λ k. k.total) cell_is;
                out_given = out_is ∙ ap₂ ◌++◌ shown (ap (λ n. drop n out) count_is);
                work_left = four_is ∙ ap (λ n. replicate n 0) three-long;
              }
