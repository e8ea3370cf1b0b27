-- Laws of a picture in a buffer: the two directions, shapes, where a pixel stands, and the cells of bytes that the pixels are.
use mathlib.Core.Path.{◌≡◌, refl, sym, ap, ap₂, ◌∙◌}
use mathlib.Core.Logic.{⊎_elim}
use mathlib.Core.List.{List, [], ◌∷◌, map, append-nil}
use Prim.Native.Nat.{ℕ, ◌+◌, ◌*◌, ◌≤◌, ◌<◌}
use native.Mathlib.Nat.{le_of_eq}
use native.Mathlib.Omega.{arith}
use lib.ListN.{length, get_or, length-map, get_or-eq_default}
use lib.Seq.{take_all}
use lib.Arith.{digits_lt}
use Rattle.grids.specs.Each.{Each, Grid}
use Rattle.grids.specs.Rows.{rows_of, flat, row_at, cells, flat_cells}
use Rattle.grids.specs.Exchange.{exchange}
use Rattle.grids.specs.Cut.{cut}
use Rattle.grids.proofs.Orders.{le-or-lt}
use Rattle.grids.proofs.Shapes.{each-length, each_at, each_map, each_then, each_back, get_or-map}
use Rattle.grids.proofs.Exchange.{exchange-each}
use Rattle.grids.proofs.Maps.{cut-map, exchange-map}
use Rattle.grids.proofs.Rows.{grid-rows_of, flat-rows_of, rows_of-flat, length-flat, rows_of_at, rows_of-past, length-row_at, row_at_get_d, length-rows_of, flat_at}
use Rattle.pictures.specs.declared.sizes.Kind.{Kind}
use Rattle.pictures.specs.declared.sizes.Size.{Size}
use Rattle.pictures.specs.Refusals.{refusal, served}
use Rattle.pictures.specs.Pictures.{Picture, channels_of, pixel_bytes, row_bytes, picture_bytes, size_rules, samples_of, bytes_of, row_in, row_out, picture, bytes, OfSize, row_of, pixel}
use Rattle.pictures.proofs.Samples.{AreBytes, PixelOf, rows_bytes, pixels_of_row, row-pixels, row-pixel, length-row_out, pixels-back, row-back, row-in-out, row-in-plain, row-out-plain, pixel-plain, samples-plain}

-- The rows of a picture, each cut into pixels.
pub picture-of_size : (z : Size) (b : List ℕ) → length b ≡ picture_bytes z → OfSize z (picture z b)
unfolding picture
picture-of_size z b e = each_map (row_in z.kind z.width) (row-pixels z.kind z.width) (grid-rows_of (row_bytes z) z.height b (omega arith))

-- From a buffer to a picture and back.
pub bytes-picture : (z : Size) (b : List ℕ) → length b ≡ picture_bytes z → AreBytes b → bytes z.kind (picture z b) ≡ b
unfolding picture bytes
bytes-picture z b e h =
    ap flat (each_back (row_in z.kind z.width) (row_out z.kind) (λ x p. row-back z.kind z.width x p.0 p.1) (rows_bytes (row_bytes z) z.height b (omega arith) h))
    ∙ flat-rows_of (row_bytes z) z.height b ∙ take_all (picture_bytes z) b (omega arith)

-- From a picture to its buffer and back.
pub rows_grid : (k : Kind) {w h : ℕ} {p : Picture} → Each (Grid (channels_of k) w) h p → Grid (w * pixel_bytes k) h (map (row_out k) p)
rows_grid k e = each_map (row_out k) (λ x g. length-row_out k g) e

pub picture_bytes_lem : (z : Size) (p : Picture) → OfSize z p → picture z (bytes z.kind p) ≡ p
unfolding picture bytes
picture_bytes_lem z p o =
    ap (map (row_in z.kind z.width))
    (ap (rows_of (row_bytes z) z.height) (sym (append-nil (flat (map (row_out z.kind) p)))) ∙ rows_of-flat [] (rows_grid z.kind o))
    ∙ each_back (row_out z.kind) (row_in z.kind z.width) (λ x g. row-in-out z.kind g) o

pub length-bytes : (z : Size) (p : Picture) → OfSize z p → length (bytes z.kind p) ≡ picture_bytes z
unfolding bytes
length-bytes z p o = length-flat (rows_grid z.kind o)

-- All its pixels are of its kind.
pub picture-pixels : (z : Size) (b : List ℕ) → length b ≡ picture_bytes z → AreBytes b → Each (Each (PixelOf z.kind) z.width) z.height (picture z b)
unfolding picture
picture-pixels z b e h = each_map (row_in z.kind z.width) (λ x p. pixels_of_row z.kind z.width x p.0 p.1) (rows_bytes (row_bytes z) z.height b (omega arith) h)

-- Row r, in pixels and in bytes.
pub picture-row : (z : Size) (b : List ℕ) (r : ℕ) → r < z.height → get_or (picture z b) r [] ≡ row_in z.kind z.width (row_at (row_bytes z) r b)
unfolding picture
picture-row z b r h =
    get_or-map (row_in z.kind z.width) (rows_of (row_bytes z) z.height b) r [] [] (rw (length-rows_of) h)
    ∙ ap (row_in z.kind z.width) (rows_of_at (row_bytes z) z.height b r h)

pub bytes-row : (k : Kind) {w h : ℕ} {p : Picture} → Each (Grid (channels_of k) w) h p → (r : ℕ) → r < h → row_at (w * pixel_bytes k) r (bytes k p) ≡ row_out k (get_or p r [])
unfolding bytes
bytes-row k {w} {h} {p} o r l = flat_at (rows_grid k o) r l ∙ get_or-map (row_out k) p r [] [] (omega (arith, each-length o))

-- Pixel c of row r: its samples stand in the c-th group of bytes of the r-th row; past the last column both have none.
pub pixel_at : (z : Size) (b : List ℕ) → length b ≡ picture_bytes z → (r c : ℕ) → r < z.height → pixel (picture z b) r c ≡ samples_of z.kind (row_at (pixel_bytes z.kind) c (row_at (row_bytes z) r b))
pixel_at z b e r c h =
    ap (λ x. get_or x c []) (picture-row z b r h)
    ∙ row-pixel z.kind z.width (row_at (row_bytes z) r b) (length-row_at (row_bytes z) z.height b r (omega arith) h) c

-- Below the last row there are no samples.
pub pixel-past : (z : Size) (b : List ℕ) (r c : ℕ) → z.height ≤ r → pixel (picture z b) r c ≡ []
unfolding picture
pixel-past z b r c h =
    ap (λ x. get_or x c [])
    (get_or-eq_default (map (row_in z.kind z.width) (rows_of (row_bytes z) z.height b)) [] (rw (length-map, length-rows_of) h))

-- No pixel has more samples than its kind.
pub pixel-short : (z : Size) (p : Picture) → OfSize z p → (r c : ℕ) → length (pixel p r c) ≤ channels_of z.kind
pixel-short z p o r c =
    ⊎_elim
    (λ (l : z.height ≤ r). rw (get_or-eq_default p [] {n = r} (omega (arith, each-length o))) (omega arith))
    (λ (l : r < z.height).
    let g = each_at r [] l o in
    ⊎_elim
    (λ (m : z.width ≤ c). rw (get_or-eq_default (get_or p r []) [] {n = c} (omega (arith, each-length g))) (omega arith))
    (λ (m : c < z.width). le_of_eq (each_at c [] m g))
    (le-or-lt z.width c))
    (le-or-lt z.height r)

-- A picture in bytes is cells of as many bytes as a pixel has: what moves pixels moves cells.
pub bytes-cells : (k : Kind) (p : Picture) → bytes k p ≡ flat_cells (map (map (bytes_of k)) p)
unfolding bytes row_out flat_cells
bytes-cells k p = ap flat (go p)
  where
    go : (p : Picture) → map (row_out k) p ≡ map flat (map (map (bytes_of k)) p)
    go [] = refl
    go (x ∷ p) = ap (row_out k x ∷◌) (go p)

pub picture-cells : (z : Size) (b : List ℕ) → length b ≡ picture_bytes z → AreBytes b
    → map (map (bytes_of z.kind)) (picture z b) ≡ cells (pixel_bytes z.kind) z.width z.height b
unfolding picture cells
picture-cells z b e h =
    each_then (row_in z.kind z.width) (map (bytes_of z.kind)) (rows_of (pixel_bytes z.kind) z.width)
    (λ x p. pixels-back z.kind z.width x p.0 p.1)
    (rows_bytes (row_bytes z) z.height b (omega arith) h)

pub cut-cells : (z : Size) (b s : List ℕ) → length b ≡ picture_bytes z → AreBytes b
    → bytes z.kind (cut s (picture z b)) ≡ flat_cells (cut s (cells (pixel_bytes z.kind) z.width z.height b))
cut-cells z b s e h =
    bytes-cells z.kind (cut s (picture z b))
    ∙ ap flat_cells (sym (cut-map (bytes_of z.kind) s (picture z b)) ∙ ap (cut s) (picture-cells z b e h))

exchanged-cells : (z : Size) (b : List ℕ) → length b ≡ picture_bytes z → AreBytes b
    → map (map (bytes_of z.kind)) (exchange z.width (picture z b)) ≡ exchange z.width (cells (pixel_bytes z.kind) z.width z.height b)
exchanged-cells z b e h = sym (exchange-map (bytes_of z.kind) z.width (picture z b)) ∙ ap (exchange z.width) (picture-cells z b e h)

pub exchange-cells : (z : Size) (b : List ℕ) → length b ≡ picture_bytes z → AreBytes b
    → bytes z.kind (exchange z.width (picture z b)) ≡ flat_cells (exchange z.width (cells (pixel_bytes z.kind) z.width z.height b))
exchange-cells z b e h = bytes-cells z.kind (exchange z.width (picture z b)) ∙ ap flat_cells (exchanged-cells z b e h)

-- And so does a column, a row of the exchanged picture.
pub exchanged-column : (z : Size) (b : List ℕ) → length b ≡ picture_bytes z → AreBytes b → (c : ℕ) → c < z.width
    → row_out z.kind (get_or (exchange z.width (picture z b)) c []) ≡ flat (get_or (exchange z.width (cells (pixel_bytes z.kind) z.width z.height b)) c [])
unfolding row_out
exchanged-column z b e h c l =
    let q = exchange z.width (picture z b) in
    ap flat
    (sym (get_or-map (map (bytes_of z.kind)) q c [] [] (omega (arith, each-length (exchange-each (picture-of_size z b e)))))
    ∙ ap (λ q. get_or q c []) (exchanged-cells z b e h))

-- The row given out: nothing where the picture is refused or has no such row, else the row's bytes.
pub row-past : (z : Size) (b : List ℕ) (r : ℕ) → refusal (size_rules z (length b)) ≡ 0 → z.height ≤ r → row_of z b r ≡ []
row-past z b r e h = ap (λ m. served m (get_or (rows_of (row_bytes z) z.height b) r []) []) e ∙ rows_of-past (row_bytes z) z.height b r h

pub row_is : (z : Size) (b : List ℕ) (r : ℕ) → refusal (size_rules z (length b)) ≡ 0 → r < z.height → row_of z b r ≡ row_at (row_bytes z) r b
row_is z b r e h = ap (λ m. served m (get_or (rows_of (row_bytes z) z.height b) r []) []) e ∙ rows_of_at (row_bytes z) z.height b r h

-- Where a sample is a byte.
pub row_plain : (z : Size) → row_bytes z ≡ z.width * channels_of z.kind
row_plain z = ap (z.width *◌) (pixel-plain z.kind)

pub picture_plain : (z : Size) (b : List ℕ) → picture z b ≡ map (rows_of (channels_of z.kind) z.width) (rows_of (row_bytes z) z.height b)
unfolding picture
picture_plain z b = go (rows_of (row_bytes z) z.height b)
  where
    go : (rows : List (List ℕ)) → map (row_in z.kind z.width) rows ≡ map (rows_of (channels_of z.kind) z.width) rows
    go [] = refl
    go (x ∷ rows) = ap₂ ◌∷◌ (row-in-plain z.kind z.width x) (go rows)

pub pixel_plain : (z : Size) (b : List ℕ) → length b ≡ picture_bytes z → (r c : ℕ) → r < z.height → pixel (picture z b) r c ≡ row_at (channels_of z.kind) c (row_at (row_bytes z) r b)
pixel_plain z b e r c h =
    pixel_at z b e r c h
    ∙ samples-plain z.kind (row_at (pixel_bytes z.kind) c (row_at (row_bytes z) r b))
    ∙ ap (λ n. row_at n c (row_at (row_bytes z) r b)) (pixel-plain z.kind)

pub bytes_plain : (k : Kind) (p : Picture) → bytes k p ≡ flat (map flat p)
unfolding bytes
bytes_plain k p = ap flat (go p)
  where
    go : (p : Picture) → map (row_out k) p ≡ map flat p
    go [] = refl
    go (x ∷ p) = ap₂ ◌∷◌ (row-out-plain k x) (go p)

-- Sample k of the pixel in row r and column c, of a kind whose samples are a byte each: the bytes of a pixel are its samples then.
pub sample_at : (z : Size) (b : List ℕ) → length b ≡ picture_bytes z → (r c k : ℕ) → r < z.height → c < z.width → k < channels_of z.kind
    → get_or (pixel (picture z b) r c) k 0 ≡ get_or b (r * row_bytes z + (c * channels_of z.kind + k)) 0
sample_at z b e r c k h l m =
    let ch = channels_of z.kind in
    ap (λ x. get_or x k 0) (pixel_plain z b e r c h)
    ∙ row_at_get_d ch (row_at (row_bytes z) r b) c k 0 m
    ∙ row_at_get_d (row_bytes z) b r (c * ch + k) 0 (rw (row_plain z) (digits_lt l m))
