-- Sizes of the cells, and where their pictures stand in the work space.
use mathlib.Core.Path.{◌≡◌, sym, ap, ◌∙◌}
use mathlib.Core.Logic.{inl, inr, ⊎_elim}
use mathlib.Core.List.{List}
use Prim.Native.Nat.{ℕ, ◌+◌, ◌-◌, ◌*◌, ◌≤◌, ◌<◌}
use native.Mathlib.Nat.{mul-le-mul, mul-le-mul_left, mul-le-mul_right, mul-one, eq-or-lt_of_le}
use native.Mathlib.Omega.{arith}
use lib.ListN.{take, drop}
use lib.Seq.{take-take}
use Rattle.grids.proofs.Orders.{le-or-lt}
use Rattle.grids.proofs.Rows.{part_end}
use Rattle.pictures.specs.declared.sizes.Size.{Size}
use Rattle.pictures.specs.Pictures.{pixel_bytes, picture_bytes, picture, pixels}
use Rattle.pictures.proofs.Limits.{pixel_some}
use Rattle.seam_moves.specs.Between.{part_at}
use Rattle.seam_bounds.specs.Inner.{PlacesApart}
use Rattle.seam_rules.specs.declared.answers.Axis.TheVariants.{Vertical, Horizontal}
use Rattle.seam_rules.specs.Counts.{smaller}
use Rattle.seam_retarget.specs.declared.table.Table.{Table}
use Rattle.seam_retarget.specs.Inner.Seams.{Apart, picture_at, left_along}
use Rattle.seam_retarget.specs.Inner.Cells.{SpaceNeeded}

-- A smaller size takes no more bytes, and a picture at least a byte a pixel.
pub smaller-few : (z : Size) (r c : ℕ) → picture_bytes (smaller z r c) ≤ picture_bytes z
smaller-few z r c =
    let h : z.height - r ≤ z.height = omega arith in
    let w : z.width - c ≤ z.width = omega arith in
    mul-le-mul h (mul-le-mul_right (pixel_bytes z.kind) w)

pub pixels-few : (z : Size) → pixels z ≤ picture_bytes z
pixels-few z =
    let one : z.width * 1 ≤ z.width * pixel_bytes z.kind = mul-le-mul_left z.width (pixel_some z.kind) in
    mul-le-mul_left z.height (rw (mul-one z.width) at one)

-- A column less, and a row less.
pub less-column : (z : Size) (r c : ℕ) → left_along Vertical (smaller z r c) ≡ smaller z r (c + 1)
less-column z r c =
    let e : z.width - c - 1 ≡ z.width - (c + 1) = omega arith in
    ap (λ w. record { width = w; height = z.height - r; kind = z.kind }) e

pub less-row : (z : Size) (r c : ℕ) → left_along Horizontal (smaller z r c) ≡ smaller z (r + 1) c
less-row z r c =
    let e : z.height - r - 1 ≡ z.height - (r + 1) = omega arith in
    ap (λ h. record { width = z.width - c; height = h; kind = z.kind }) e

-- A shorter part of equal parts.
pub part_shorter : (a n m : ℕ) (u v : List ℕ) → n ≤ m → part_at a m u ≡ part_at a m v → part_at a n u ≡ part_at a n v
part_shorter a n m u v h e = sym (take-take n m (drop a u) h) ∙ ap (take n) e ∙ take-take n m (drop a v) h

-- The same picture in a slot that is as it was.
pub same_picture : (z : Size) (whole r c at : ℕ) (u v : List ℕ) → whole ≡ picture_bytes z → part_at at whole u ≡ part_at at whole v
    → picture_at (smaller z r c) at u ≡ picture_at (smaller z r c) at v
same_picture z whole r c at u v is e = ap (picture (smaller z r c)) (part_shorter at (picture_bytes (smaller z r c)) whole u v (rw is (smaller-few z r c)) e)

-- Two slots don't overlap.
pub slots_apart : (k j w : ℕ) → (k ≡ j → ⊥) → Apart (k * w) w (j * w) w
slots_apart k j w other =
    ⊎_elim
    (λ (l : k ≤ j). ⊎_elim (λ (e : k ≡ j). absurd (other e)) (λ (h : k < j). inl (part_end k j w h)) (eq-or-lt_of_le l))
    (λ (l : j < k). inr (part_end j k w l))
    (le-or-lt k j)

-- The room of a smaller picture, with a byte for each of its pixels.
pub double_few : (z : Size) (whole r c : ℕ) → whole ≡ picture_bytes z → picture_bytes (smaller z r c) + pixels (smaller z r c) ≤ 2 * whole
double_few z whole r c is = omega (arith, smaller-few z r c, pixels-few (smaller z r c))

-- A slot, and a place for work after the slots.
pub record Placed (z' : Size) (whole k p work : ℕ) : Type 0 where
  pub here : PlacesApart work (k * whole) (p * whole) (picture_bytes z')
  pub there : PlacesApart work (p * whole) (k * whole) (picture_bytes z')
  pub room : p * whole + (picture_bytes z' + pixels z') ≤ work

module _ (tab : Table) (work : ℕ) (needed : SpaceNeeded tab work) (k r c : ℕ) (slot : k < 65) where
  abbrev z : Size
  z = tab.size.size

  abbrev whole : ℕ
  whole = tab.whole

  few : picture_bytes (smaller z r c) ≤ whole
  few = omega (arith, smaller-few z r c, tab.whole_is)

  end : k * whole + whole ≤ 65 * whole
  end = part_end k 65 whole slot

  placed : (p : ℕ) → 65 * whole ≤ p * whole → p * whole + 2 * whole ≤ work → Placed (smaller z r c) whole k p work
  placed p from to =
      let n = few in
      let e = end in
      let d = double_few z whole r c tab.whole_is in
      record {
        here = record { from_inside = omega arith; to_inside = omega arith; apart = inl (omega arith) };
        there = record { from_inside = omega arith; to_inside = omega arith; apart = inr (omega arith) };
        room = omega arith;
      }

  pub placed-vertical : Placed (smaller z r c) whole k 65 work
  placed-vertical = placed 65 (omega arith) (omega (arith, needed.room))

  pub placed-horizontal : Placed (smaller z r c) whole k 67 work
  placed-horizontal = placed 67 (omega arith) (omega (arith, needed.room))

  -- A slot is apart from the places for work.
  pub apart-vertical : (n : ℕ) → n ≤ 2 * whole → Apart (k * whole) whole (65 * whole) n
  apart-vertical n h = inl end

  pub apart-horizontal : (n : ℕ) → n ≤ 2 * whole → Apart (k * whole) whole (67 * whole) n
  apart-horizontal n h = inl (omega (arith, end))
