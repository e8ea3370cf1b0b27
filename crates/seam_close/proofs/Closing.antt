-- Laws of a seam closed up: the rows that are left, in the terms of the loop that closes them.
use mathlib.Core.Path.{◌≡◌, refl, sym, ap, ap₂, ◌∙◌}
use mathlib.Core.List.{List, [], ◌++◌, map}
use Prim.Native.Nat.{ℕ, ◌+◌, ◌-◌, ◌*◌, ◌≤◌, ◌<◌}
use native.Mathlib.Nat.{one-mul, mul-add, mul-le-mul_right, add-sub_cancel_left}
use native.Mathlib.Omega.{arith}
use borrow.Rule.Slice.PartMut.{mid_of, put_mid, mid_len}
use lib.ListN.{length, get_or, take, drop, replicate, length-append, length-drop}
use lib.Seq.{take_at, length-take-le}
use Rattle.grids.specs.Table.{table}
use Rattle.grids.specs.Rows.{flat, row_at, cells, flat_cells}
use Rattle.grids.specs.Cut.{remove_at, cut}
use Rattle.grids.proofs.Shapes.{each-length, each_at}
use Rattle.grids.proofs.Tables.{table_same}
use Rattle.grids.proofs.Rows.{length-row_at, part_end}
use Rattle.grids.proofs.Cells.{cells-each, flat-row}
use Rattle.grids.proofs.Cut.{cut-table, flat-remove_at}
use Rattle.pictures.specs.declared.sizes.Size.{Size}
use Rattle.pictures.specs.Pictures.{pixel_bytes, picture, bytes}
use Rattle.pictures.proofs.Limits.{line-fits, Sized, sized_is}
use Rattle.pictures.proofs.Samples.{AreBytes}
use Rattle.pictures.proofs.Buffers.{cut-cells}
use Rattle.seam_bounds.proofs.Moving.{inside_each}
use Rattle.seam_close.specs.Inner.{without, CellsNeeded, PixelsNeeded}
use Rattle.grids.proofs.Filled.{map-table, Filled, filled-later, filled-part, filled-rest}

-- How long a line is without the bytes of a pixel.
pub length_without : (gap n : ℕ) (line : List ℕ) → gap + n ≤ length line → length (without gap n line) ≡ length line - n
length_without gap n line h =
    omega (arith, length-append (take gap line) (drop (gap + n) line), length-take-le gap line (omega arith), length-drop (gap + n) line)

-- Row r of the bytes without the seam's cell: rows of `stride` bytes, cells of n.
abbrev pub closed_row : ℕ → ℕ → List ℕ → List ℕ → ℕ → List ℕ
closed_row n stride b s r = without (get_or s r 0 * n) n (row_at stride r b)

-- The rows left are those of the cells left.
pub closed_is : (n w : ℕ) (b s : List ℕ) → length b ≡ length s * (w * n)
    → flat_cells (cut s (cells n w (length s) b)) ≡ flat (table (closed_row n (w * n) b s) (length s))
unfolding flat_cells
closed_is n w b s e =
    let h = length s in
    let p = cells n w (length s) b in
    let shape = cells-each n w (length s) b e in
    ap (λ q. flat (map flat q)) (cut-table s p h refl (each-length shape))
    ∙ ap flat (map-table flat (λ r. remove_at (get_or s r 0) (get_or p r [])) h
    ∙ table_same (λ r. flat (remove_at (get_or s r 0) (get_or p r []))) (closed_row n (w * n) b s) h
    (λ r l. flat-remove_at (get_or s r 0) (each_at r [] l shape) ∙ ap (without (get_or s r 0 * n) n) (flat-row n w h b e r l)))

-- The loop over the rows, one for each column of the seam.
module _ {b s : List ℕ} {n w : ℕ} (needed : CellsNeeded b n w s) where
  abbrev h : ℕ
  h = length s

  pub record Sure : Type 0 where
    pub some : n ≤ w * n
    pub freed : h * (w * n - n) + h * n ≡ h * (w * n)

  one : n ≤ w * n
  one = rw (one-mul) at (mul-le-mul_right n needed.wide)

  -- A row without a cell, r times.
  less : (r : ℕ) → r * (w * n - n) + r * n ≡ r * (w * n)
  less r = let e : w * n - n + n ≡ w * n = omega (arith, one) in rw (← mul-add, e)

  pub sure : Sure
  sure = record { some = one; freed = less h }

  module _ (r : ℕ) (inside : r < h) where
    pub record RowSure : Type 0 where
      pub end : r * (w * n) + w * n ≤ length b
      pub dest : r * (w * n - n) ≤ r * (w * n)
      pub gap : get_or s r 0 * n + n ≤ w * n

    pub row_sure : RowSure
    row_sure =
        let c : get_or s r 0 < w = each_at r 0 inside (inside_each w s needed.inside) in
        record { end = omega (arith, part_end r h (w * n) inside, needed.long); dest = omega (arith, less r); gap = part_end (get_or s r 0) w n c }

    pub length-closedRow : length (closed_row n (w * n) b s r) ≡ w * n - n
    length-closedRow =
        let long = length-row_at (w * n) h b r (omega (arith, needed.long)) inside in
        length_without (get_or s r 0 * n) n (row_at (w * n) r b) (omega (arith, row_sure.gap)) ∙ ap (◌- n) long

  -- One turn. `now` is the picture as it is then, `line` the row's bytes with what stood after them, `new` the part that
  -- comes back.
  module _ (r k c : ℕ) (now row line old new : List ℕ) (inside : r < h) (long : length now ≡ length b) (so_far : Filled (closed_row n (w * n) b s) (w * n - n) b r now) where
    pub row_turn : row ≡ mid_of (r * (w * n)) (r * (w * n) + w * n - r * (w * n)) now
        → line ≡ row ++ drop (w * n) old
        → c ≡ get_or s r 0
        → k ≡ length now - r * (w * n - n)
        → new ≡ without (c * n) n (take (w * n) line) ++ drop (length (take (w * n) line) - n) (mid_of (r * (w * n - n)) k now)
        → Filled (closed_row n (w * n) b s) (w * n - n) b (r + 1) (put_mid (r * (w * n - n)) k now new)
    row_turn row_is line-is column k-is New-is =
        let q = row_sure r inside in
        let f = closed_row n (w * n) b s in
        let size : (i : ℕ) → i < h → length (f i) ≡ w * n - n = length-closedRow in
        let later : drop (r * (w * n)) now ≡ drop (r * (w * n)) b = filled-later f h (w * n - n) size b r now inside so_far (r * (w * n)) q.dest in
        let same : row ≡ row_at (w * n) r b = row_is ∙ rw (add-sub_cancel_left (r * (w * n)) (w * n), later) in
        let size-row : length row ≡ w * n = rw same (length-row_at (w * n) h b r (omega (arith, needed.long)) inside) in
        let front : take (w * n) line ≡ row_at (w * n) r b = rw line-is (take_at row (drop (w * n) old) (w * n) size-row ∙ same) in
        let D = drop (r * (w * n - n)) now in
        let room : w * n - n ≤ length (take k D) = rw (length-take-le k D (omega (arith, length-drop (r * (w * n - n)) now))) (omega (arith, sure.some)) in
        filled-part f h (w * n - n) size b r now inside so_far k new room (rw (front, column, length-row_at (w * n) h b r (omega (arith, needed.long)) inside) at New-is)

  -- After the last row, with what was freed cleared.
  pub rows_end : (now new : List ℕ) → length now ≡ length b → Filled (closed_row n (w * n) b s) (w * n - n) b h now
      → new ≡ replicate (length (mid_of (h * (w * n - n)) (length now - h * (w * n - n)) now)) 0
      → put_mid (h * (w * n - n)) (length now - h * (w * n - n)) now new ≡ flat_cells (cut s (cells n w (length s) b)) ++ replicate (length s * n) 0
  rows_end now new long so_far New-is =
      let q = sure in
      let f = closed_row n (w * n) b s in
      let free : length (mid_of (h * (w * n - n)) (length now - h * (w * n - n)) now) ≡ h * n = mid_len (h * (w * n - n)) (length now) now (omega (arith, needed.long)) ∙ omega (arith, needed.long) in
      filled-rest f h (w * n - n) length-closedRow b now new so_far ∙ ap₂ ◌++◌ (sym (closed_is n w b s needed.long)) (New-is ∙ ap (λ m. replicate m 0) free)

-- The cells that the pixels of a picture are.
module _ (z : Size) (b s : List ℕ) (needed : PixelsNeeded b z s) where
  sized : Sized z (length b)
  sized = sized_is z (length b) needed.sized

  pub cells_needed : (n : ℕ) → n ≡ pixel_bytes z.kind → CellsNeeded b n z.width s
  cells_needed n is =
      rw is
      record {
        wide = sized.width_some;
        line = line-fits z.width z.kind sized.width_most;
        short = omega (arith, sized.length_is, sized.picture_most);
        long = sized.length_is ∙ ap (◌* (z.width * pixel_bytes z.kind)) (sym needed.columns);
        inside = needed.inside;
      }

  pub pixels_closed : (n : ℕ) → n ≡ pixel_bytes z.kind → AreBytes b → (new : List ℕ) → new ≡ flat_cells (cut s (cells n z.width (length s) b)) ++ replicate (length s * n) 0
      → new ≡ bytes z.kind (cut s (picture z b)) ++ replicate (z.height * pixel_bytes z.kind) 0
  pixels_closed n is small new new_is =
      new_is
      ∙ ap₂ (λ n h. flat_cells (cut s (cells n z.width h b)) ++ replicate (h * n) 0) is needed.columns
      ∙ ap (◌++ replicate (z.height * pixel_bytes z.kind) 0) (sym (cut-cells z b s sized.length_is small))
