-- Laws of samples in bytes, and of rows of pixels: the two directions and shapes.
use mathlib.Core.Path.{◌≡◌, refl, sym, ap, ap₂, ◌∙◌}
use mathlib.Core.Logic.{⊎_elim}
use mathlib.Core.List.{List, [], ◌∷◌, map, append-nil}
use Prim.Native.Nat.{ℕ, zero, suc, ◌+◌, ◌*◌, ◌≤◌, ◌<◌}
use native.Mathlib.Nat.{mul-one, suc-mul, le_of_eq}
use native.Mathlib.Omega.{arith}
use lib.ListN.{length, get_or, take, drop, length-drop, length-map, get_or-eq_default}
use lib.Seq.{take_all, length-take-le, get_or-drop}
use Rattle.grids.specs.Each.{Each, Grid, none, more}
use Rattle.grids.specs.Rows.{rows_of, flat, row_at}
use Rattle.grids.proofs.Orders.{le-or-lt}
use Rattle.grids.proofs.Shapes.{each_map, each_back, get_or-map}
use Rattle.grids.proofs.Rows.{grid-rows_of, flat-rows_of, rows_of-flat, length-flat, length-rows_of, rows_of_at, row_at-past}
use Rattle.pictures.specs.declared.sizes.Kind.{Kind}
use Rattle.pictures.specs.declared.sizes.Kind.TheVariants.{Grey, Rgb}
use Rattle.pictures.specs.Pictures.{channels_of, sample_bytes, pixel_bytes, largest_sample, samples_of, bytes_of, row_in, row_out}

-- What a buffer holds, and so each part of it.
abbrev pub AreBytes : List ℕ → Type 0
AreBytes b = (i : ℕ) → get_or b i 0 ≤ 255

pub take_bytes : (n : ℕ) (b : List ℕ) → AreBytes b → AreBytes (take n b)
take_bytes zero b h i = omega arith
take_bytes (suc n) [] h i = omega arith
take_bytes (suc n) (x ∷ b) h zero = h 0
take_bytes (suc n) (x ∷ b) h (suc i) = take_bytes n b (λ j. h (suc j)) i

pub drop_bytes : (n : ℕ) (b : List ℕ) → AreBytes b → AreBytes (drop n b)
drop_bytes n b h i = rw (get_or-drop n b i 0) (h (n + i))

pub each-bytes : (b : List ℕ) → AreBytes b → Each (λ x. x < 256) (length b) b
each-bytes [] h = none
each-bytes (x ∷ b) h = more (omega (arith, h 0)) (each-bytes b (λ i. h (suc i)))

pub rows_bytes : (w n : ℕ) (b : List ℕ) → n * w ≤ length b → AreBytes b → Each (λ x. (length x ≡ w) × AreBytes x) n (rows_of w n b)
rows_bytes w zero b e h = none
rows_bytes w (suc n) b e h =
    more (length-take-le w b (omega (arith, suc-mul n w)), take_bytes w b h)
    (rows_bytes w n (drop w b) (omega (arith, suc-mul n w, length-drop w b)) (drop_bytes w b h))

-- n samples in bytes, and back.
pub bytes-samples : (k : Kind) (n : ℕ) (b : List ℕ) → length b ≡ n * sample_bytes k → AreBytes b → bytes_of k (samples_of k b) ≡ b
unfolding samples_of bytes_of
bytes-samples Grey n b e h = refl
bytes-samples Rgb n b e h = refl

pub samples-bytes : (k : Kind) (s : List ℕ) → samples_of k (bytes_of k s) ≡ s
unfolding samples_of bytes_of
samples-bytes Grey s = refl
samples-bytes Rgb s = refl

pub length-samples : (k : Kind) (n : ℕ) (b : List ℕ) → length b ≡ n * sample_bytes k → length (samples_of k b) ≡ n
unfolding samples_of
length-samples Grey n b e = e ∙ mul-one n
length-samples Rgb n b e = e ∙ mul-one n

pub length-bytes_of : (k : Kind) (s : List ℕ) → length (bytes_of k s) ≡ length s * sample_bytes k
unfolding bytes_of
length-bytes_of Grey s = sym (mul-one (length s))
length-bytes_of Rgb s = sym (mul-one (length s))

pub samples-none : (k : Kind) → samples_of k [] ≡ []
unfolding samples_of
samples-none Grey = refl
samples-none Rgb = refl

-- None is above the kind's largest.
pub samples-most : (k : Kind) (b : List ℕ) → AreBytes b → (i : ℕ) → get_or (samples_of k b) i 0 ≤ largest_sample k
unfolding samples_of
samples-most Grey b h = h
samples-most Rgb b h = h

-- A pixel: as many bytes as its samples have; its samples from its bytes, and its bytes.
pub pixel_bytes_are : (k : Kind) → pixel_bytes k ≡ channels_of k * sample_bytes k
unfolding pixel_bytes
pixel_bytes_are Grey = refl
pixel_bytes_are Rgb = refl

pub pixel-samples : (k : Kind) (b : List ℕ) → length b ≡ pixel_bytes k → length (samples_of k b) ≡ channels_of k
pixel-samples k b e = length-samples k (channels_of k) b (e ∙ pixel_bytes_are k)

pub pixel-bytes : (k : Kind) (s : List ℕ) → length s ≡ channels_of k → length (bytes_of k s) ≡ pixel_bytes k
pixel-bytes k s e = length-bytes_of k s ∙ ap (◌* sample_bytes k) e ∙ sym (pixel_bytes_are k)

-- A row of w pixels in bytes, and back.
pub row-pixels : (k : Kind) (w : ℕ) (b : List ℕ) → length b ≡ w * pixel_bytes k → Grid (channels_of k) w (row_in k w b)
unfolding row_in
row-pixels k w b e = each_map (samples_of k) (pixel-samples k) (grid-rows_of (pixel_bytes k) w b (omega arith))

-- Pixel c of it; past the last column there are no samples.
pub row-pixel : (k : Kind) (w : ℕ) (b : List ℕ) → length b ≡ w * pixel_bytes k → (c : ℕ) → get_or (row_in k w b) c [] ≡ samples_of k (row_at (pixel_bytes k) c b)
unfolding row_in
row-pixel k w b e c =
    let rows = rows_of (pixel_bytes k) w b in
    ⊎_elim
    (λ (h : w ≤ c).
    get_or-eq_default (map (samples_of k) rows) [] (rw (length-map, length-rows_of) h)
    ∙ sym (ap (samples_of k) (row_at-past (pixel_bytes k) w b c (le_of_eq e) h) ∙ samples-none k))
    (λ (h : c < w).
    get_or-map (samples_of k) rows c [] [] (rw (length-rows_of) h)
    ∙ ap (samples_of k) (rows_of_at (pixel_bytes k) w b c h))
    (le-or-lt w c)

row-out : (k : Kind) {w : ℕ} {x : List (List ℕ)} → Grid (channels_of k) w x → Grid (pixel_bytes k) w (map (bytes_of k) x)
row-out k g = each_map (bytes_of k) (pixel-bytes k) g

pub length-row_out : (k : Kind) {w : ℕ} {x : List (List ℕ)} → Grid (channels_of k) w x → length (row_out k x) ≡ w * pixel_bytes k
unfolding row_out
length-row_out k g = length-flat (row-out k g)

pixel-back : (k : Kind) (b : List ℕ) → length b ≡ pixel_bytes k → AreBytes b → bytes_of k (samples_of k b) ≡ b
pixel-back k b e h = bytes-samples k (channels_of k) b (e ∙ pixel_bytes_are k) h

pub pixels-back : (k : Kind) (w : ℕ) (b : List ℕ) → length b ≡ w * pixel_bytes k → AreBytes b → map (bytes_of k) (row_in k w b) ≡ rows_of (pixel_bytes k) w b
unfolding row_in
pixels-back k w b e h = each_back (samples_of k) (bytes_of k) (λ x p. pixel-back k x p.0 p.1) (rows_bytes (pixel_bytes k) w b (omega arith) h)

pub row-back : (k : Kind) (w : ℕ) (b : List ℕ) → length b ≡ w * pixel_bytes k → AreBytes b → row_out k (row_in k w b) ≡ b
unfolding row_out
row-back k w b e h = ap flat (pixels-back k w b e h) ∙ flat-rows_of (pixel_bytes k) w b ∙ take_all (w * pixel_bytes k) b (le_of_eq e)

pub row-in-out : (k : Kind) {w : ℕ} {x : List (List ℕ)} → Grid (channels_of k) w x → row_in k w (row_out k x) ≡ x
unfolding row_in row_out
row-in-out k {w} {x} g =
    ap (λ b. map (samples_of k) (rows_of (pixel_bytes k) w b)) (sym (append-nil (flat (map (bytes_of k) x))))
    ∙ ap (map (samples_of k)) (rows_of-flat [] (row-out k g))
    ∙ each_back (bytes_of k) (samples_of k) (λ s e. samples-bytes k s) g

-- A pixel of its kind: as many samples, none above the largest. Such are those of a row of bytes.
abbrev pub PixelOf : Kind → List ℕ → Type 0
PixelOf k s = (length s ≡ channels_of k) × ((i : ℕ) → get_or s i 0 ≤ largest_sample k)

pub pixels_of_row : (k : Kind) (w : ℕ) (b : List ℕ) → length b ≡ w * pixel_bytes k → AreBytes b → Each (PixelOf k) w (row_in k w b)
unfolding row_in
pixels_of_row k w b e h = each_map (samples_of k) (λ x p. (pixel-samples k x p.0, samples-most k x p.1)) (rows_bytes (pixel_bytes k) w b (omega arith) h)

-- Where a sample is a byte, as it is in each kind.
pub pixel-plain : (k : Kind) → pixel_bytes k ≡ channels_of k
unfolding pixel_bytes
pixel-plain Grey = refl
pixel-plain Rgb = refl

pub samples-plain : (k : Kind) (b : List ℕ) → samples_of k b ≡ b
unfolding samples_of
samples-plain Grey b = refl
samples-plain Rgb b = refl

pub bytes-plain : (k : Kind) (s : List ℕ) → bytes_of k s ≡ s
unfolding bytes_of
bytes-plain Grey s = refl
bytes-plain Rgb s = refl

map-plain : (f : List ℕ → List ℕ) → ((s : List ℕ) → f s ≡ s) → (x : List (List ℕ)) → map f x ≡ x
map-plain f e [] = refl
map-plain f e (s ∷ x) = ap₂ ◌∷◌ (e s) (map-plain f e x)

pub row-in-plain : (k : Kind) (w : ℕ) (b : List ℕ) → row_in k w b ≡ rows_of (channels_of k) w b
unfolding row_in
row-in-plain k w b = map-plain (samples_of k) (samples-plain k) (rows_of (pixel_bytes k) w b) ∙ ap (λ n. rows_of n w b) (pixel-plain k)

pub row-out-plain : (k : Kind) (x : List (List ℕ)) → row_out k x ≡ flat x
unfolding row_out
row-out-plain k x = ap flat (map-plain (bytes_of k) (bytes-plain k) x)
