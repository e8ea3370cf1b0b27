-- Rows of planes: where a row's bytes stand, which numbers they are, and their bounds.
use mathlib.Core.Path.{◌≡◌, sym, ap, ◌∙◌}
use mathlib.Core.Logic.{⊎_elim}
use mathlib.Core.List.{List, [], ◌∷◌}
use Prim.Native.Nat.{ℕ, zero, suc, ◌+◌, ◌-◌, ◌*◌, ◌≤◌, ◌<◌}
use native.Mathlib.Omega.{arith}
use native.Mathlib.Nat.{add-sub_cancel_left}
use lib.ListN.{length, get_or, take, drop, length-drop, length-map, get_or-eq_default}
use lib.Seq.{length-take-le}
use Rattle.grids.specs.Rows.{rows_of}
use Rattle.grids.proofs.Rows.{rows_of_at, length-rows_of, row_at_get_d, part_end}
use Rattle.grids.proofs.Orders.{le-or-lt}
use Rattle.pictures.specs.declared.sizes.Size.{Size}
use Rattle.pictures.specs.Numbers.{numbers_in, largest_number}
use mathlib.Core.Bool.{Bool}
use Rattle.pictures.proofs.Limits.{sides_are}
use Rattle.seam_find_kept.specs.Inner.Down.{PlanesNeeded, SpaceNeeded}
use Rattle.pictures.proofs.Samples.{AreBytes, take_bytes, drop_bytes}
use Rattle.seam_planes.specs.Planes.{fronts, numbers_of, plane_bytes}
use Rattle.seam_planes.proofs.Fronts.{fronts_at}
use Rattle.seam_planes.proofs.Elements.{numbers_front}

-- The bytes of the first w numbers of row i.
abbrev pub bytes_at : Size → ℕ → ℕ → List ℕ → List ℕ
bytes_at z w i plane = take (2 * w) (drop (i * (2 * z.width)) plane)

-- What the specification says of a row.
abbrev pub row_of : Size → ℕ → ℕ → List ℕ → List ℕ
row_of z w i plane = get_or (fronts w (numbers_of z.width z.height plane)) i []

pub row_is : (z : Size) (w i : ℕ) (plane : List ℕ) → w ≤ z.width → i < z.height → row_of z w i plane ≡ numbers_in (bytes_at z w i plane)
row_is z w i plane narrow inside = sym (numbers_front z.width z.height w plane i narrow inside)

-- No number of two bytes is larger.
number-most : (b : List ℕ) → AreBytes b → (i : ℕ) → get_or (numbers_in b) i 0 ≤ largest_number
number-most [] h i = omega arith
number-most (a ∷ []) h i = omega arith
number-most (a ∷ b ∷ r) h zero = omega (arith, h 0, h 1)
number-most (a ∷ b ∷ r) h (suc i) = number-most r (λ j. h (suc (suc j))) i

-- Past the last row there is nothing.
row-past : (z : Size) (w i : ℕ) (plane : List ℕ) → z.height ≤ i → row_of z w i plane ≡ []
row-past z w i plane past =
    let n = numbers_of z.width z.height plane in
    get_or-eq_default (fronts w n) [] (rw (length-map n (take w), length-rows_of) past)

pub row-small : (z : Size) (w i : ℕ) (plane : List ℕ) → w ≤ z.width → AreBytes plane → (c : ℕ)
    → get_or (row_of z w i plane) c 0 ≤ largest_number
row-small z w i plane narrow bytes c =
    ⊎_elim
    (λ (h : z.height ≤ i). rw (row-past z w i plane h) (omega arith))
    (λ (h : i < z.height). rw (row_is z w i plane narrow h) (number-most (bytes_at z w i plane) are c))
    (le-or-lt z.height i)
  where
    are : AreBytes (bytes_at z w i plane)
    are = take_bytes (2 * w) (drop (i * (2 * z.width)) plane) (drop_bytes (i * (2 * z.width)) plane bytes)

-- Row i ends within a plane that is long enough,
row-end : (z : Size) (w i plane : ℕ) → w ≤ z.width → i < z.height → plane ≡ plane_bytes z → i * (2 * z.width) + 2 * w ≤ plane
row-end z w i plane narrow inside long = omega (arith, part_end i z.height z.width inside)

-- and so has its bytes.
pub bytes-long : (z : Size) (w i : ℕ) (plane : List ℕ) → w ≤ z.width → i < z.height → length plane ≡ plane_bytes z
    → length (bytes_at z w i plane) ≡ 2 * w
bytes-long z w i plane narrow inside long =
    length-take-le (2 * w) (drop (i * (2 * z.width)) plane)
    (omega (arith, row-end z w i (length plane) narrow inside long, length-drop (i * (2 * z.width)) plane))

-- They are what is lent.
pub row-lent : (z : Size) (w i : ℕ) (plane : List ℕ)
    → take (i * (2 * z.width) + 2 * w - i * (2 * z.width)) (drop (i * (2 * z.width)) plane) ≡ bytes_at z w i plane
row-lent z w i plane = ap (λ n. take n (drop (i * (2 * z.width)) plane)) (add-sub_cancel_left (i * (2 * z.width)) (2 * w))

-- Number c of row i, as it is read from the whole plane,
pub row_at_c : (z : Size) (w i c : ℕ) (plane : List ℕ) → w ≤ z.width → i < z.height → c < w
    → get_or (numbers_in plane) (i * z.width + c) 0 ≡ get_or (row_of z w i plane) c 0
row_at_c z w i c plane narrow inside l =
    let n = numbers_in plane in
    sym
    (fronts_at w (rows_of z.width z.height n) i c 0 l
    ∙ ap (λ r. get_or r c 0) (rows_of_at z.width z.height n i inside)
    ∙ row_at_get_d z.width n i c 0 (omega arith))

-- which has its bytes.
pub number_within : (z : Size) (w i c : ℕ) (plane : ℕ) → w ≤ z.width → i < z.height → c < w → plane ≡ plane_bytes z
    → 2 * (i * z.width + c) + 1 < plane
number_within z w i c plane narrow inside l long = omega (arith, part_end i z.height z.width inside)

-- There is room for row 0: in a plane, and in the space for sums.
module _ {one : Bool} {z : Size} {w : ℕ} {up : List ℕ} {left right : ℕ} (n : PlanesNeeded z w one up left right) where
  pub costs_end : 2 * w ≤ length up
  costs_end = omega (arith, row-end z w 0 (length up) n.within (sides_are z n.sides).height_some n.up_long)

  pub sums_end : {b sums : ℕ} → SpaceNeeded b z w sums → (w + 2) * b ≤ sums
  sums_end {b} space = omega (arith, space.room, part_end 0 z.height ((w + 2) * b) (sides_are z n.sides).height_some)
