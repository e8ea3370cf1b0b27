-- A plane of cells of n bytes, closed along a seam: the cells that are left.
use mathlib.Core.Path.{◌≡◌, refl, sym, ap, ◌∙◌}
use mathlib.Core.List.{List, [], ◌++◌, map, append_assoc}
use Prim.Native.Nat.{ℕ, suc, ◌+◌, ◌-◌, ◌*◌, ◌≤◌, ◌<◌}
use native.Mathlib.Nat.{mul-le-mul_left, mul-le-mul_right, le_of_eq}
use native.Mathlib.Omega.{arith}
use borrow.Rule.Slice.PartMut.{mid_of, put_mid}
use lib.ListN.{length, length-map, get_or, take, drop, length-append, length-drop}
use lib.Seq.{length-take-le}
use Rattle.grids.specs.Each.{Grid}
use Rattle.grids.specs.Table.{table}
use Rattle.grids.specs.Rows.{rows_of, flat, row_at, cells}
use Rattle.grids.specs.Cut.{remove_at, cut}
use Rattle.grids.proofs.Shapes.{each_at, each-length, get_or-map}
use Rattle.grids.proofs.Tables.{table_same, each-table}
use Rattle.grids.proofs.Rows.{part_end, grid-rows_of, flat-rows_of, rows_of-flat, rows_of_at, length-row_at, length-rows_of}
use Rattle.grids.proofs.Cut.{remove_at-each, flat-remove_at, cut-table}
use Rattle.grids.proofs.Cells.{cells-each}
use Rattle.grids.proofs.Filled.{Filled, map-table}
use Rattle.pictures.specs.Limits.{most_side}
use Rattle.seam_bounds.proofs.Moving.{inside_each}
use Rattle.seam_planes.specs.Planes.{fronts}
use Rattle.seam_planes.specs.Inner.{closed, RowsNeeded}
use Rattle.seam_planes.proofs.Fronts.{take-rows, fronts_table}
use Rattle.seam_planes.proofs.Closing.{length_closed}
use Rattle.seam_planes.proofs.Lent.{front_lent, front_turn}

-- A row of which the first k bytes are closed.
abbrev front_closed : ℕ → ℕ → ℕ → List ℕ → List ℕ
front_closed n k gap row = closed n gap (take k row) ++ drop k row

-- Of its w first cells of n bytes the c-th is missing.
module _ (n w c : ℕ) (row : List ℕ) (inside : c < w) (fits : w * n ≤ length row) where
  ends : c * n + n ≤ length (take (w * n) row)
  ends = omega (arith, length-take-le (w * n) row fits, part_end c w n inside)

  length_front : length (front_closed n (w * n) (c * n) row) ≡ length row
  length_front =
      omega (
        arith,
        length-append (closed n (c * n) (take (w * n) row)) (drop (w * n) row),
        length_closed n (c * n) (take (w * n) row) ends,
        length-take-le (w * n) row fits,
        length-drop (w * n) row,
      )

  cells_left : rows_of n (w - 1) (front_closed n (w * n) (c * n) row) ≡ remove_at c (rows_of n w row)
  cells_left =
      let front = take (w * n) row in
      let tail : List ℕ = drop (length (take (w * n) row) - n) (take (w * n) row) in
      let grid : Grid n w (rows_of n w row) = grid-rows_of n w row fits in
      let e : w ≡ suc (w - 1) = omega arith in
      let left : Grid n (w - 1) (remove_at c (rows_of n w row)) = remove_at-each c (rw (← e) inside) (rw (← e) grid) in
      let is : flat (remove_at c (rows_of n w row)) ≡ take (c * n) front ++ drop (c * n + n) front =
      flat-remove_at c grid ∙ ap (λ x. take (c * n) x ++ drop (c * n + n) x) (flat-rows_of n w row) in
      let split : front_closed n (w * n) (c * n) row ≡ flat (remove_at c (rows_of n w row)) ++ (tail ++ drop (w * n) row) =
      append_assoc (take (c * n) front) (drop (c * n + n) front ++ tail) (drop (w * n) row)
      ∙ ap (take (c * n) front ++◌) (append_assoc (drop (c * n + n) front) tail (drop (w * n) row))
      ∙ sym (append_assoc (take (c * n) front) (drop (c * n + n) front) (tail ++ drop (w * n) row))
      ∙ sym (ap (◌++ (tail ++ drop (w * n) row)) is) in
      ap (rows_of n (w - 1)) split ∙ rows_of-flat (tail ++ drop (w * n) row) left

-- Row r of a plane, closed.
abbrev pub closed_row : ℕ → ℕ → ℕ → List ℕ → List ℕ → ℕ → List ℕ
closed_row n m w s b r = front_closed n (w * n) (get_or s r 0 * n) (row_at (m * n) r b)

-- The loop over the rows, one for each column of the seam.
module _ {n m w : ℕ} {s b : List ℕ} (needed : RowsNeeded n m w s b) where
  abbrev rows : ℕ → List ℕ
  rows = closed_row n m w s b

  used : w * n ≤ m * n
  used = mul-le-mul_right n needed.left

  pub row_most : w * n ≤ 6 * most_side
  row_most = omega (arith, used, mul-le-mul_right n needed.narrow, mul-le-mul_left most_side needed.few)

  pub record RowSure (r : ℕ) : Type 0 where
    pub end : r * (m * n) + m * n ≤ length b
    pub used : w * n ≤ m * n

  column : (r : ℕ) → r < length s → get_or s r 0 < w
  column r l = each_at r 0 l (inside_each w s needed.inside)

  pub row_sure : (r : ℕ) → r < length s → RowSure r
  row_sure r l = record {
    end = omega (arith, part_end r (length s) (m * n) l, needed.long);
    used = used;
  }

  pub gap_sure : (r : ℕ) → r < length s → get_or s r 0 * n + n ≤ w * n
  gap_sure r l = part_end (get_or s r 0) w n (column r l)

  row_long : (r : ℕ) → r < length s → length (row_at (m * n) r b) ≡ m * n
  row_long r l = length-row_at (m * n) (length s) b r (le_of_eq (sym needed.long)) l

  size : (r : ℕ) → r < length s → length (rows r) ≡ m * n
  size r l = length_front n w (get_or s r 0) (row_at (m * n) r b) (column r l) (omega (arith, row_long r l, used)) ∙ row_long r l

  -- One turn: the cells that count of row r were lent.
  pub row_turn : (r at end gap : ℕ) (now new : List ℕ) → r < length s → length now ≡ length b → at ≡ r * (m * n) → end ≡ at + w * n → gap ≡ get_or s r 0 * n
      → new ≡ closed n gap (mid_of at (end - at) now) → Filled rows (m * n) b r now → Filled rows (m * n) b (r + 1) (put_mid at (end - at) now new)
  row_turn r at end gap now new l same p q g is so =
      let k : end - at ≡ w * n = omega arith in
      let lent : mid_of (r * (m * n)) (w * n) now ≡ take (w * n) (row_at (m * n) r b) = front_lent rows (length s) (m * n) size b (le_of_eq (sym needed.long)) r now l so (w * n) used in
      let back : new ≡ closed n (get_or s r 0 * n) (take (w * n) (row_at (m * n) r b)) = (rw (k, p, g) at is) ∙ ap (closed n (get_or s r 0 * n)) lent in
      rw (k, p) (front_turn rows (length s) (m * n) size b (le_of_eq (sym needed.long)) r now l so (w * n) used new (ap (◌++ drop (w * n) (row_at (m * n) r b)) back) same)

  -- After the last row.
  pub rows_end : (now : List ℕ) → Filled rows (m * n) b (length s) now → fronts (w - 1) (cells n m (length s) now) ≡ cut s (fronts w (cells n m (length s) b))
  unfolding cells
  rows_end now so =
      let h = length s in
      let old : List (List (List ℕ)) = cells n m h b in
      let grid : Grid (m * n) h (table rows h) = each-table rows h size in
      ap (fronts (w - 1)) (ap (map (rows_of n m)) (ap (rows_of (m * n) h) so ∙ rows_of-flat (drop (h * (m * n)) b) grid) ∙ map-table (rows_of n m) rows h)
      ∙ fronts_table (w - 1) (λ r. rows_of n m (rows r)) h
      ∙ table_same (λ r. take (w - 1) (rows_of n m (rows r))) (λ r. remove_at (get_or s r 0) (get_or (fronts w old) r [])) h row
      ∙ sym (cut-table s (fronts w old) h refl (rw (length-map) all))
    where
      all : length (cells n m (length s) b) ≡ length s
      all = each-length (cells-each n m (length s) b needed.long)

      row : (r : ℕ) → r < length s → take (w - 1) (rows_of n m (rows r)) ≡ remove_at (get_or s r 0) (get_or (fronts w (cells n m (length s) b)) r [])
      row r l =
          let it : List ℕ = row_at (m * n) r b in
          let old : List (List (List ℕ)) = cells n m (length s) b in
          let is : get_or (fronts w old) r [] ≡ take w (rows_of n m it) =
          get_or-map (take w) old r [] [] (omega (arith, all))
          ∙ ap (take w) (get_or-map (rows_of n m) (rows_of (m * n) (length s) b) r [] [] (rw (length-rows_of) l) ∙ ap (rows_of n m) (rows_of_at (m * n) (length s) b r l)) in
          take-rows n (w - 1) m (rows r) (omega (arith, needed.left))
          ∙ cells_left n w (get_or s r 0) it (column r l) (omega (arith, row_long r l, used))
          ∙ sym (ap (remove_at (get_or s r 0)) (is ∙ take-rows n w m it needed.left))
