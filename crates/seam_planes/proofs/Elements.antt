-- What the cells of a plane are: numbers of two bytes, or pixels.
use mathlib.Core.Path.{◌≡◌, refl, sym, ap, ap₂, ◌∙◌}
use mathlib.Core.List.{List, [], ◌∷◌, map}
use Prim.Native.Nat.{ℕ, zero, suc, ◌+◌, ◌*◌, ◌≤◌, ◌<◌}
use native.Mathlib.Nat.{mul_comm, mul_left_comm, le_of_eq}
use native.Mathlib.Omega.{arith}
use lib.ListN.{length, get_or, take, drop}
use lib.Seq.{take-take}
use Rattle.grids.specs.Each.{Grid}
use Rattle.grids.specs.Rows.{rows_of, row_at, cells}
use Rattle.grids.specs.Cut.{cut}
use Rattle.grids.proofs.Shapes.{each_then, get_or-map}
use Rattle.grids.proofs.Rows.{grid-rows_of, rows_of_at, length-row_at, length-rows_of, row_at_get_d}
use Rattle.pictures.specs.declared.sizes.Size.{Size}
use Rattle.pictures.specs.Numbers.{two_bytes, numbers_in}
use Rattle.pictures.specs.Pictures.{pixel_bytes, row_bytes, samples_of, row_in, picture}
use Rattle.pictures.proofs.TwoBytes.{numbers-take, numbers-drop, numbers-row, numbers_at, length-numbers}
use Rattle.seam_planes.specs.Planes.{fronts, numbers_of}
use Rattle.seam_planes.proofs.Fronts.{fronts_cut}

-- The number of a cell of two bytes.
abbrev number_of : List ℕ → ℕ
number_of x = two_bytes (get_or x 0 0) (get_or x 1 0)

row_numbers : (m : ℕ) (b : List ℕ) → length b ≡ m * 2 → map number_of (rows_of 2 m b) ≡ numbers_in b
row_numbers zero [] e = refl
row_numbers zero (x ∷ b) e = absurd (omega arith)
row_numbers (suc m) [] e = absurd (omega arith)
row_numbers (suc m) (x ∷ []) e = absurd (omega arith)
row_numbers (suc m) (x ∷ y ∷ b) e = ap (two_bytes x y ∷◌) (row_numbers m b (omega arith))

-- The numbers of a plane, row by row.
pub numbers_rows : (m h : ℕ) (b : List ℕ) → numbers_of m h b ≡ map numbers_in (rows_of (2 * m) h b)
numbers_rows m zero b = refl
numbers_rows m (suc h) b = ap₂ ◌∷◌ (sym (numbers-take m b)) (ap (rows_of m h) (sym (numbers-drop m b)) ∙ numbers_rows m h (drop (2 * m) b))

-- They are a grid.
pub numbers_grid : (m h : ℕ) (b : List ℕ) → length b ≡ h * (2 * m) → Grid m h (numbers_of m h b)
numbers_grid m h b e = grid-rows_of m h (numbers_in b) (omega (arith, length-numbers b, e, mul_left_comm h 2 m))

-- Row r.
row_of_numbers : (m h : ℕ) (b : List ℕ) (r : ℕ) → r < h → get_or (numbers_of m h b) r [] ≡ numbers_in (row_at (2 * m) r b)
row_of_numbers m h b r l = rows_of_at m h (numbers_in b) r l ∙ sym (numbers-row m r b)

-- The number in row r and column c.
pub number_at : (m h : ℕ) (b : List ℕ) (r c : ℕ) → length b ≡ h * (2 * m) → r < h → c < m
    → get_or (get_or (numbers_of m h b) r []) c 0 ≡ two_bytes (get_or b (r * (2 * m) + 2 * c) 0) (get_or b (r * (2 * m) + 2 * c + 1) 0)
number_at m h b r c e l k =
    let row = row_at (2 * m) r b in
    let long : length (row_at (2 * m) r b) ≡ 2 * m = length-row_at (2 * m) h b r (le_of_eq (sym e)) l in
    let high : r * (2 * m) + (2 * c + 1) ≡ r * (2 * m) + 2 * c + 1 = omega arith in
    ap (λ x. get_or x c 0) (row_of_numbers m h b r l) ∙ numbers_at row c (omega (arith, long))
    ∙ ap₂ two_bytes (row_at_get_d (2 * m) b r (2 * c) 0 (omega arith)) (row_at_get_d (2 * m) b r (2 * c + 1) 0 (omega arith) ∙ ap (λ i. get_or b i 0) high)

-- The first w numbers of row r, from the bytes that a loop is lent of it.
pub numbers_front : (m h w : ℕ) (b : List ℕ) (r : ℕ) → w ≤ m → r < h → numbers_in (take (2 * w) (drop (r * (2 * m)) b)) ≡ get_or (fronts w (numbers_of m h b)) r []
numbers_front m h w b r k l =
    ap numbers_in (sym (take-take (2 * w) (2 * m) (drop (r * (2 * m)) b) (omega arith)))
    ∙ numbers-take w (row_at (2 * m) r b) ∙ ap (take w) (sym (row_of_numbers m h b r l))
    ∙ sym (get_or-map (take w) (numbers_of m h b) r [] [] (rw (length-rows_of) l))

-- A plane of numbers is one of cells of two bytes.
numbers_by_cells : (m h : ℕ) (b : List ℕ) → length b ≡ h * (m * 2) → numbers_of m h b ≡ map (map number_of) (cells 2 m h b)
unfolding cells
numbers_by_cells m h b e =
    numbers_rows m h b ∙ ap (λ k. map numbers_in (rows_of k h b)) (mul_comm 2 m)
    ∙ sym (each_then (rows_of 2 m) (map number_of) numbers_in (λ x l. row_numbers m x l) (grid-rows_of (m * 2) h b (le_of_eq (sym e))))

-- The pixels of a picture.
picture_by_cells : (z : Size) (b : List ℕ) → picture z b ≡ map (map (samples_of z.kind)) (cells (pixel_bytes z.kind) z.width z.height b)
unfolding picture row_in cells
picture_by_cells z b = go (rows_of (row_bytes z) z.height b)
  where
    go : (rows : List (List ℕ)) → map (row_in z.kind z.width) rows ≡ map (map (samples_of z.kind)) (map (rows_of (pixel_bytes z.kind) z.width) rows)
    go [] = refl
    go (x ∷ rows) = ap (map (samples_of z.kind) (rows_of (pixel_bytes z.kind) z.width x) ∷◌) (go rows)

-- A seam taken out of all cells is taken out of what they are.
pub numbers_cut : (m v w : ℕ) (s b b' : List ℕ) → length b ≡ length s * (m * 2) → length b' ≡ length b
    → fronts v (cells 2 m (length s) b') ≡ cut s (fronts w (cells 2 m (length s) b))
    → fronts v (numbers_of m (length s) b') ≡ cut s (fronts w (numbers_of m (length s) b))
numbers_cut m v w s b b' e same left =
    rw (numbers_by_cells m (length s) b e, numbers_by_cells m (length s) b' (same ∙ e)) (fronts_cut number_of v w s (cells 2 m (length s) b) (cells 2 m (length s) b') left)

pub picture_cut : (z : Size) (n v w : ℕ) (s b b' : List ℕ) → n ≡ pixel_bytes z.kind → length s ≡ z.height
    → fronts v (cells n z.width (length s) b') ≡ cut s (fronts w (cells n z.width (length s) b))
    → fronts v (picture z b') ≡ cut s (fronts w (picture z b))
picture_cut z n v w s b b' p h left =
    let k : ℕ = pixel_bytes z.kind in
    rw (picture_by_cells z b, picture_by_cells z b')
    (fronts_cut (samples_of z.kind) v w s (cells k z.width z.height b) (cells k z.width z.height b') (rw (p, h) at left))
