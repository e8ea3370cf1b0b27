-- The rows of sums, one after the other: what holds before row i, that one row more keeps it, and what is found at the end.
use mathlib.Core.Path.{◌≡◌, refl, sym, ap, ap₂, ◌∙◌}
use mathlib.Core.Logic.{⊎_elim}
use mathlib.Core.Bool.{false}
use mathlib.Core.List.{List, [], ◌∷◌, ◌++◌}
use Prim.Native.Nat.{ℕ, suc, ◌+◌, ◌-◌, ◌*◌, ◌≤◌, ◌<◌, min}
use native.Mathlib.Omega.{arith}
use native.Mathlib.Nat.{eq-or-lt_of_le, zero-mul, suc-mul, mul-le-mul_right, add-sub_cancel_left}
use lib.ListN.{length, get_or, take, drop, length-map}
use lib.Seq.{take_at, length-take-le}
use Rattle.grids.specs.Table.{table}
use Rattle.grids.specs.Rows.{row_at}
use Rattle.grids.proofs.Rows.{row_at-before, part_end}
use Rattle.grids.proofs.Parts.{last_part}
use Rattle.pictures.specs.declared.sizes.Size.{Size}
use Rattle.seam_theory.specs.Sums.{CostRows, fenced, sum_of3, sums_down, least_to}
use Rattle.seam_theory.proofs.Bounded.{fenced_at}
use Rattle.seam_theory.proofs.Capped.{capped, capped_at, capped_fenced, capped_row, capped_least}
use Rattle.seam_sums.proofs.Turns.{least_inside}
use Rattle.seam_sums.specs.Fences.{fence32}
use Rattle.seam_find.specs.ByCosts.{last_sums, bottom_column, least_sum}
use Rattle.seam_find_kept.specs.Inner.Kept.{SumLaws}
use Rattle.seam_theory.proofs.Kept.{kept_sum, kept_first}
use Rattle.seam_find_kept.specs.Inner.Down.{fenced_sums, RowsAbove, RowsGiven}
use Rattle.seam_theory.proofs.Kept.{kept_sums}
use Rattle.seam_find_kept.proofs.KeptRows.{Cheap}
use Rattle.seam_find_kept.proofs.Small.{sums-long}
use Rattle.seam_find_kept.proofs.Stored.{row-front, row-last, row-made, row-after}

-- The sums of the row after row j are those that a row is worked out from.
next_sums : (k : ℕ → CostRows) (w j : ℕ) → table (sum_of3 (fenced_sums k w j) (k (suc j))) w ≡ sums_down false fence32 w k (suc j)
unfolding sums_down
next_sums k w j = refl

sums-next : (k : ℕ → CostRows) (w i : ℕ) → 0 < i → table (sum_of3 (fenced_sums k w (i - 1)) (k i)) w ≡ sums_down false fence32 w k i
sums-next k w i later = go (i - 1) (omega (arith, later))
  where
    go : (j : ℕ) → i ≡ suc j → table (sum_of3 (fenced_sums k w (i - 1)) (k i)) w ≡ sums_down false fence32 w k i
    go j e =
        let before : i - 1 ≡ j = omega arith in
        ap₂ (λ n m. table (sum_of3 (fenced_sums k w n) (k m)) w) before e ∙ next_sums k w j ∙ ap (sums_down false fence32 w k) (sym e)

-- The sums of row i as they are kept, from those of the row above it.
pub kept-next : (most : ℕ) (k : ℕ → CostRows) (w i : ℕ) (x : List ℕ) → 0 < i → x ≡ kept_sums most fence32 w k (i - 1)
    → table (kept_sum most x (k i)) w ≡ capped most (sums_down false fence32 w k i)
kept-next most k w i x later is =
    ap (λ y. table (kept_sum most y (k i)) w) is
    ∙ capped_row most (fenced_sums k w (i - 1)) (k i) w
    ∙ ap (capped most) (sums-next k w i later)

module _ {n most : ℕ} {held : List ℕ → List ℕ} (laws : SumLaws n most held) (k : ℕ → CostRows) (z : Size) (w : ℕ) where
  front_kept : Cheap k w → fenced false (min most fence32) w (k 0).up ≡ kept_sums most fence32 w k 0
  front_kept cheap = kept_first most fence32 w k (λ c. omega (arith, cheap.few 0 c, laws.costs))

  pub row-first : (sums : List ℕ) → Cheap k w → 0 < z.height → z.height * ((w + 2) * n) ≤ length sums
      → held (take ((w + 2) * n) sums) ≡ fenced false (min most fence32) w (k 0).up → RowsAbove n most held k z w 1 sums
  row-first sums cheap some room is = record {
    later = omega arith;
    within = some;
    room = room;
    rows = λ r h.
        let top : r ≡ 0 = omega arith in
        rw (top, zero-mul ((w + 2) * n)) (is ∙ front_kept cheap);
  }

  -- Row i made after the rows above it.
  module _ (i : ℕ) (above left next right : List ℕ) (inside : i < z.height)
      (above-long : length above ≡ i * ((w + 2) * n)) (left-long : length left ≡ n) (next-long : length next ≡ w * n)
      (room : z.height * ((w + 2) * n) ≤ length (above ++ (left ++ (next ++ right))))
      (before : (r : ℕ) → r < i → held (row_at ((w + 2) * n) r above) ≡ kept_sums most fence32 w k r)
      (right-room : n ≤ length right) (left-is : get_or (held left) 0 0 ≡ min most fence32)
      (next-is : held next ≡ capped most (sums_down false fence32 w k i)) (right-is : get_or (held right) 0 0 ≡ min most fence32) where
    abbrev all : List ℕ
    all = above ++ (left ++ (next ++ right))

    made : held (take ((w + 2) * n) (left ++ (next ++ right))) ≡ kept_sums most fence32 w k i
    made =
        row-made laws (min most fence32) w left next right (capped most (sums_down false fence32 w k i)) left-long next-long right-room left-is
        next-is right-is
        ∙ sym (capped_fenced most fence32 w (sums_down false fence32 w k i))

    rows : (r : ℕ) → r < i + 1 → held (row_at ((w + 2) * n) r all) ≡ kept_sums most fence32 w k r
    rows r h =
        ⊎_elim
        (λ (e : r ≡ i). rw e (ap held (row-after ((w + 2) * n) i above (left ++ (next ++ right)) above-long) ∙ made))
        (λ (l : r < i).
        ap held (row_at-before ((w + 2) * n) r above (left ++ (next ++ right))
        (omega (arith, above-long, part_end r i ((w + 2) * n) l)))
        ∙ before r l)
        (eq-or-lt_of_le (omega arith))

    pub one-more : RowsAbove n most held k z w (i + 1) (above ++ (left ++ (next ++ right)))
    one-more = record {
      later = omega arith;
      within = omega arith;
      room = room;
      rows = rows;
    }

-- The rows above row i, where they stand in front of it, as numbers of n bytes.
module _ (n most : ℕ) (held : List ℕ → List ℕ) (k : ℕ → CostRows) (z : Size) (w : ℕ) where
  pub record Front (i : ℕ) (above : List ℕ) : Type 0 where
    pub long : length above ≡ i * ((w + 2) * n)
    pub rows : (r : ℕ) → r < i → held (row_at ((w + 2) * n) r above) ≡ kept_sums most fence32 w k r
    pub last_is : held (take (length above - (i - 1) * ((w + 2) * n)) (drop ((i - 1) * ((w + 2) * n)) above)) ≡ kept_sums most fence32 w k (i - 1)

  module _ {i : ℕ} {sums : List ℕ} (needed : RowsAbove n most held k z w i sums)
      (above : List ℕ) (is : above ≡ take (i * ((w + 2) * n)) sums) where
    abbrev stride : ℕ
    stride = (w + 2) * n

    fits : i * stride ≤ length sums
    fits = omega (arith, needed.room, mul-le-mul_right stride needed.within)

    above-long : length above ≡ i * stride
    above-long = ap length is ∙ length-take-le (i * stride) sums fits

    above-rows : (r : ℕ) → r < i → held (row_at stride r above) ≡ kept_sums most fence32 w k r
    above-rows r h =
        ap (λ b. held (row_at stride r b)) is ∙ ap held (row-front stride i r sums fits h) ∙ needed.rows r h

    one-less : i * stride ≡ (i - 1) * stride + stride
    one-less = let later : i ≡ suc (i - 1) = omega (arith, needed.later) in ap (λ m. m * stride) later ∙ suc-mul (i - 1) stride

    last_row : take (length above - (i - 1) * stride) (drop ((i - 1) * stride) above) ≡ row_at stride (i - 1) above
    last_row = last_part ((i - 1) * stride) above ∙ row-last stride (i - 1) above (above-long ∙ one-less)

    pub rows-front : Front i above
    rows-front = record {
      long = above-long;
      rows = above-rows;
      last_is = ap held last_row ∙ above-rows (i - 1) (omega (arith, needed.later));
    }

-- The last row, read between its fences: the first of the least, and how much it is.
module _ (n most : ℕ) (held : List ℕ → List ℕ) (k : ℕ → CostRows) (z : Size) (w : ℕ) (sums : List ℕ) (cheap : Cheap k w)
    (rows : (r : ℕ) → r < z.height → held (row_at ((w + 2) * n) r sums) ≡ kept_sums most fence32 w k r) (some : 0 < z.height) where
  abbrev at : ℕ
  at = (z.height - 1) * ((w + 2) * n)

  abbrev last : List ℕ
  last = last_sums fence32 w z.height k

  pub last_kept : held (take (at + (w + 2) * n - at) (drop at sums)) ≡ kept_sums most fence32 w k (z.height - 1)
  last_kept =
      ap (λ m. held (take m (drop at sums))) (add-sub_cancel_left at ((w + 2) * n)) ∙ rows (z.height - 1) (omega (arith, some))

  between : take w (drop 1 (kept_sums most fence32 w k (z.height - 1))) ≡ capped most last
  between =
      ap (λ x. take w (drop 1 x)) (capped_fenced most fence32 w last)
      ∙ take_at (capped most last) (min most fence32 ∷ []) w (length-map last (min most) ∙ sums-long k w cheap (z.height - 1))

  pub last-column : (column : ℕ)
      → column ≡ least_to (take w (drop 1 (held (take (at + (w + 2) * n - at) (drop at sums))))) (w - 1)
      → column ≡ least_to (capped most (last_sums fence32 w z.height k)) (w - 1)
  last-column column is =
      is
      ∙ ap (λ x. least_to (take w (drop 1 x)) (w - 1)) last_kept
      ∙ ap (λ x. least_to x (w - 1)) between

-- How much the first of the least is, and which it is where it is below `most`.
module _ (n most : ℕ) (held : List ℕ → List ℕ) (k : ℕ → CostRows) (z : Size) (w : ℕ) (sums : List ℕ) (column : ℕ) (cheap : Cheap k w)
    (narrow : 0 < w) (given : RowsGiven n most held k z w sums column) where
  pub column-inside : column < w
  column-inside = omega (arith, given.column_is, least_inside (capped most (last_sums fence32 w z.height k)) (w - 1), narrow)

  -- Read from the last row, which begins after h - 1 rows of this stride.
  pub last-least : 0 < z.height → (stride : ℕ) → stride ≡ (w + 2) * n → {v : ℕ}
      → v ≡ get_or (held (take ((z.height - 1) * stride + stride - (z.height - 1) * stride) (drop ((z.height - 1) * stride) sums))) (column + 1) 0
      → v ≡ min most (least_sum fence32 w z.height k)
  last-least some stride wide is =
      let last = last_sums fence32 w z.height k in
      is
      ∙ ap (λ s. get_or (held (take ((z.height - 1) * s + s - (z.height - 1) * s) (drop ((z.height - 1) * s) sums))) (column + 1) 0) wide
      ∙ ap (λ x. get_or x (column + 1) 0) (last_kept n most held k z w sums cheap given.rows some)
      ∙ capped_at most (fenced_sums k w (z.height - 1)) (column + 1)
      ∙ ap (min most) (fenced_at false fence32 w last column (omega (arith, column-inside, sums-long k w cheap (z.height - 1))))
      ∙ sym (capped_at most last column)
      ∙ ap (λ c. get_or (capped most last) c 0) given.column_is
      ∙ (capped_least most last (w - 1)).sum

  pub column-bottom : least_sum fence32 w z.height k < most → column ≡ bottom_column fence32 w z.height k
  column-bottom low = given.column_is ∙ (capped_least most (last_sums fence32 w z.height k) (w - 1)).column low
