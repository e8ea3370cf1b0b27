-- What it says of a size that 2, 3 and 4 don't refuse a buffer.
use mathlib.Core.Path.{◌≡◌, refl, sym, ap, ◌∙◌}
use mathlib.Core.Bool.{false, cond, not, ◌||◌}
use mathlib.Core.List.{[], ◌∷◌}
use Prim.Native.Nat.{ℕ, zero, suc, ◌*◌, ◌≤◌, ◌<◌}
use native.Mathlib.Nat.{mul-le-mul, mul-le-mul_left, mul_comm, mul_assoc}
use native.Mathlib.Omega.{arith}
use lib.Dec.{eqb, ltb}
use borrow.Author.Tests.{ltb-false, le-ltb, eqb-true, eqb-false, ne_eqb, not-false, eq-eqb}
use Rattle.grids.proofs.Bools.{neither}
use Rattle.pictures.specs.declared.sizes.Kind.{Kind}
use Rattle.pictures.specs.declared.sizes.Kind.TheVariants.{Grey, Rgb}
use Rattle.pictures.specs.declared.sizes.Size.{Size}
use Rattle.pictures.specs.Refusals.{◌when◌, refusal, served}
use Rattle.pictures.specs.Limits.{most_side, most_row, most_pixels, most_picture}
use Rattle.pictures.specs.Pictures.{largest_side, channels_of, pixel_bytes, picture_bytes, pixels, side_rules, size_rules}
use Rattle.pictures.proofs.Rules.{served-first, passed}

-- A size within the limits; the fields named `small` and `most` after it are what the arithmetic needs of it.
pub record Sides (z : Size) : Type 0 where
  pub width_some : 0 < z.width
  pub width_most : z.width ≤ largest_side
  pub width_small : z.width ≤ most_side
  pub height_some : 0 < z.height
  pub height_most : z.height ≤ largest_side
  pub height_small : z.height ≤ most_side
  pub channels_most : channels_of z.kind ≤ 3
  pub pixel_some : 0 < pixel_bytes z.kind
  pub pixel_most : pixel_bytes z.kind ≤ 6
  pub row_most : z.width * pixel_bytes z.kind ≤ most_row
  pub picture_most : z.height * (z.width * pixel_bytes z.kind) ≤ most_picture
  pub pixels_most : z.height * z.width ≤ most_pixels

-- A size within the limits, and a buffer as long as it says.
pub record Sized (z : Size) (bytes : ℕ) : Type 0 where
  pub width_some : 0 < z.width
  pub width_most : z.width ≤ largest_side
  pub width_small : z.width ≤ most_side
  pub height_some : 0 < z.height
  pub height_most : z.height ≤ largest_side
  pub height_small : z.height ≤ most_side
  pub channels_most : channels_of z.kind ≤ 3
  pub pixel_some : 0 < pixel_bytes z.kind
  pub pixel_most : pixel_bytes z.kind ≤ 6
  pub length_is : bytes ≡ z.height * (z.width * pixel_bytes z.kind)
  pub row_most : z.width * pixel_bytes z.kind ≤ most_row
  pub picture_most : z.height * (z.width * pixel_bytes z.kind) ≤ most_picture
  pub pixels_most : z.height * z.width ≤ most_pixels

pub channels_most : (k : Kind) → channels_of k ≤ 3
channels_most Grey = omega arith
channels_most Rgb = omega arith

pub pixel_some : (k : Kind) → 0 < pixel_bytes k
unfolding pixel_bytes
pixel_some Grey = omega arith
pixel_some Rgb = omega arith

pub pixel_most : (k : Kind) → pixel_bytes k ≤ 6
unfolding pixel_bytes
pixel_most Grey = omega arith
pixel_most Rgb = omega arith

pos : (n : ℕ) → eqb n 0 ≡ false → 0 < n
pos zero e = absurd (eqb-false 0 0 e refl)
pos (suc n) e = omega arith

pub sides_are : (z : Size) → refusal (side_rules z) ≡ 0 → Sides z
sides_are z e =
    let two = passed (eqb z.width 0 || eqb z.height 0) 1 (cond (ltb largest_side z.width || ltb largest_side z.height) 3 0) e in
    let three = passed (ltb largest_side z.width || ltb largest_side z.height) 2 0 two.1 in
    let some = neither (eqb z.width 0) (eqb z.height 0) two.0 in
    let most = neither (ltb largest_side z.width) (ltb largest_side z.height) three.0 in
    let w = ltb-false largest_side z.width most.0 in
    let h = ltb-false largest_side z.height most.1 in
    let wide : z.width ≤ most_side = omega (arith, w) in
    let tall : z.height ≤ most_side = omega (arith, h) in
    let row : z.width * pixel_bytes z.kind ≤ most_row = mul-le-mul wide (pixel_most z.kind) in
    record {
      width_some = pos z.width some.0;
      width_most = w;
      width_small = wide;
      height_some = pos z.height some.1;
      height_most = h;
      height_small = tall;
      channels_most = channels_most z.kind;
      pixel_some = pixel_some z.kind;
      pixel_most = pixel_most z.kind;
      row_most = row;
      picture_most = omega (arith, mul-le-mul tall row);
      pixels_most = mul-le-mul tall wide;
    }

-- Sides within the limits are served.
pub sides_of : (z : Size) → 0 < z.width → z.width ≤ largest_side → 0 < z.height → z.height ≤ largest_side → refusal (side_rules z) ≡ 0
sides_of z p q r s =
    let w : z.width ≡ 0 → ⊥ = λ e. omega arith in
    let h : z.height ≡ 0 → ⊥ = λ e. omega arith in
    simp (ne_eqb _ _ w, ne_eqb _ _ h, le-ltb _ _ q, le-ltb _ _ s)

-- A picture takes at most six bytes a pixel.
pub bytes-few : (z : Size) → picture_bytes z ≤ 6 * pixels z
bytes-few z =
    let m = mul-le-mul_left z.height (mul-le-mul_left z.width (pixel_most z.kind)) in
    omega (arith, mul_assoc z.height z.width 6, mul_comm (z.height * z.width) 6)

-- A line of n pixels fits six bytes for each pixel of the largest side.
pub line-fits : (n : ℕ) (k : Kind) → n ≤ largest_side → n * pixel_bytes k ≤ 6 * largest_side
line-fits n k l = omega (arith, mul-le-mul l (pixel_most k))

-- The number of pixels that is given out for any size, 0 where it is refused, and a multiple of it.
pub pixels-few : (z : Size) → served (refusal (side_rules z)) (pixels z) 0 ≤ most_pixels
pixels-few z = go (refusal (side_rules z)) refl
  where
    go : (n : ℕ) → refusal (side_rules z) ≡ n → served n (pixels z) 0 ≤ most_pixels
    go zero e = (sides_are z e).pixels_most
    go (suc n) e = omega arith

-- What is given out for a size whose sides are served.
pub given_out : (z : Size) (n x : ℕ) → refusal (side_rules z) ≡ 0 → n ≡ served (refusal (side_rules z)) x 0 → n ≡ x
given_out z n x e is = is ∙ ap (λ r. served r x 0) e

-- A picture that is served has sides that are, and the length that they say.
pub sides_served : (z : Size) (bytes : ℕ) → refusal (size_rules z bytes) ≡ 0 → refusal (side_rules z) ≡ 0
sides_served z bytes e =
    let two = passed (eqb z.width 0 || eqb z.height 0) 1 (cond (ltb largest_side z.width || ltb largest_side z.height) 3 (cond (not (eqb bytes (picture_bytes z))) 4 0)) e in
    let three = passed (ltb largest_side z.width || ltb largest_side z.height) 2 (cond (not (eqb bytes (picture_bytes z))) 4 0) two.1 in
    rw (two.0, three.0)

length-served : (z : Size) (bytes : ℕ) → refusal (size_rules z bytes) ≡ 0 → bytes ≡ picture_bytes z
length-served z bytes e =
    let rest : refusal (4 when not (eqb bytes (picture_bytes z)) ∷ []) ≡ 0 = sym (served-first (side_rules z) (4 when not (eqb bytes (picture_bytes z)) ∷ []) refl (sides_served z bytes e)) ∙ e in
    eqb-true bytes (picture_bytes z) (not-false (eqb bytes (picture_bytes z)) (passed (not (eqb bytes (picture_bytes z))) 3 0 rest).0)

pub sized_of : (z : Size) (bytes : ℕ) → Sides z → bytes ≡ picture_bytes z → Sized z bytes
sized_of z bytes s e = record {
  width_some = s.width_some;
  width_most = s.width_most;
  width_small = s.width_small;
  height_some = s.height_some;
  height_most = s.height_most;
  height_small = s.height_small;
  channels_most = s.channels_most;
  pixel_some = s.pixel_some;
  pixel_most = s.pixel_most;
  length_is = e;
  row_most = s.row_most;
  picture_most = s.picture_most;
  pixels_most = s.pixels_most;
}

pub sized_is : (z : Size) (bytes : ℕ) → refusal (size_rules z bytes) ≡ 0 → Sized z bytes
sized_is z bytes e = sized_of z bytes (sides_are z (sides_served z bytes e)) (length-served z bytes e)

-- A buffer as long as its size says is served where the sides are.
pub sized-served : (z : Size) → refusal (side_rules z) ≡ 0 → refusal (size_rules z (picture_bytes z)) ≡ 0
sized-served z e =
    served-first (side_rules z) (4 when not (eqb (picture_bytes z) (picture_bytes z)) ∷ []) refl e ∙ simp (eq-eqb (picture_bytes z) (picture_bytes z) refl)
