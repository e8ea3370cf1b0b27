-- Laws of the columns left of a picture, packed at its front.
use mathlib.Core.Path.{◌≡◌, refl, sym, ap, ap₂, ◌∙◌}
use mathlib.Core.List.{List, [], ◌∷◌, ◌++◌, map}
use Prim.Native.Nat.{ℕ, ◌+◌, ◌-◌, ◌*◌, ◌≤◌, ◌<◌}
use native.Mathlib.Nat.{mul-le-mul_left, le_of_eq}
use native.Mathlib.Omega.{arith}
use borrow.Rule.Slice.PartMut.{mid_of, put_mid}
use lib.ListN.{length, take, drop}
use lib.Seq.{take_all, take_at, length-take-le, take-take}
use Rattle.grids.specs.Table.{table}
use Rattle.grids.specs.Rows.{rows_of, flat, row_at, cells, flat_cells}
use Rattle.grids.proofs.Shapes.{grid_of}
use Rattle.grids.proofs.Tables.{rows_table}
use Rattle.grids.proofs.Rows.{length-row_at, flat-rows_of}
use Rattle.grids.proofs.Filled.{Filled, filled-length, filled-later}
use Rattle.pictures.specs.declared.sizes.Size.{Size}
use Rattle.pictures.specs.Pictures.{pixel_bytes, row_bytes, picture_bytes, bytes_of, picture, bytes}
use Rattle.pictures.proofs.Samples.{AreBytes}
use Rattle.pictures.proofs.Buffers.{picture-of_size, bytes-picture, bytes-cells, picture-cells}
use Rattle.seam_planes.specs.Planes.{fronts}
use Rattle.seam_planes.specs.Inner.{PackNeeded}
use Rattle.seam_planes.proofs.Fronts.{fronts_all, fronts_table, fronts-map, take-rows}
use Rattle.seam_planes.proofs.Lent.{whole_turn}

-- Row r's front.
abbrev pub packed_row : ℕ → ℕ → List ℕ → ℕ → List ℕ
packed_row m k b r = take k (row_at m r b)

-- The loop over the rows.
module _ {m k h : ℕ} {b : List ℕ} (needed : PackNeeded m k h b) where
  abbrev rows : ℕ → List ℕ
  rows = packed_row m k b

  size : (r : ℕ) → r < h → length (rows r) ≡ k
  size r l = length-take-le k (row_at m r b) (omega (arith, length-row_at m h b r (le_of_eq (sym needed.long)) l, needed.left))

  -- One turn: row r's front has passed through a line, of which `old` is what stood in it.
  pub pack_turn : (r from to : ℕ) (now row old new : List ℕ) → r < h → length now ≡ length b
      → from ≡ r * m → to ≡ r * k
      → row ≡ mid_of from (from + k - from) now → new ≡ take k (row ++ drop k old)
      → Filled rows k b r now → Filled rows k b (r + 1) (put_mid to (to + k - to) now new)
  pack_turn r from to now row old new l same p q row_is New-is so =
      let e : from + k - from ≡ k = omega arith in
      let f : to + k - to ≡ k = omega arith in
      let later : drop (r * m) now ≡ drop (r * m) b = filled-later rows h k size b r now l so (r * m) (mul-le-mul_left r needed.left) in
      let is : row ≡ rows r = (rw (e, p) at row_is) ∙ ap (take k) later ∙ sym (take-take k m (drop (r * m) b) needed.left) in
      let through : new ≡ rows r = New-is ∙ take_at row (drop k old) k (ap length is ∙ size r l) ∙ is in
      rw (f, q) (whole_turn rows h k size b (omega (arith, mul-le-mul_left h needed.left, needed.long)) r now l so new through same)

  -- After the last row.
  pub pack_end : (now : List ℕ) → Filled rows k b h now → take (h * k) now ≡ flat (fronts k (rows_of m h b))
  pack_end now so =
      ap (take (h * k)) so ∙ take_at (flat (table rows h)) (drop (h * k) b) (h * k) (filled-length rows h k size b h (omega arith))
      ∙ ap flat (sym (fronts_table k (λ r. row_at m r b) h) ∙ ap (fronts k) (sym (rows_table m h b)))

-- The columns left are the fronts of the rows of bytes.
pub bytes_fronts : (z : Size) (w : ℕ) (b : List ℕ) → w ≤ z.width → length b ≡ picture_bytes z → AreBytes b
    → bytes z.kind (fronts w (picture z b)) ≡ flat (fronts (w * pixel_bytes z.kind) (rows_of (row_bytes z) z.height b))
unfolding flat_cells cells
bytes_fronts z w b l e h =
    let k = z.kind in
    bytes-cells k (fronts w (picture z b))
    ∙ ap flat_cells (sym (fronts-map (bytes_of k) w (picture z b)) ∙ ap (fronts w) (picture-cells z b e h))
    ∙ ap flat (go (rows_of (row_bytes z) z.height b))
  where
    go : (rows : List (List ℕ)) → map flat (fronts w (map (rows_of (pixel_bytes z.kind) z.width) rows)) ≡ fronts (w * pixel_bytes z.kind) rows
    go [] = refl
    go (x ∷ rows) = ap₂ ◌∷◌ (ap flat (take-rows (pixel_bytes z.kind) w z.width x l) ∙ flat-rows_of (pixel_bytes z.kind) w x) (go rows)

-- Where no column is gone, nothing moves.
pub bytes_all : (z : Size) (w : ℕ) (b : List ℕ) → w ≡ z.width → length b ≡ picture_bytes z → AreBytes b
    → take (z.height * (w * pixel_bytes z.kind)) b ≡ bytes z.kind (fronts w (picture z b))
bytes_all z w b l e h =
    rw l
    (take_all (z.height * (z.width * pixel_bytes z.kind)) b (omega (arith, e))
    ∙ sym (ap (bytes z.kind) (fronts_all (grid_of (picture-of_size z b e))) ∙ bytes-picture z b e h))
