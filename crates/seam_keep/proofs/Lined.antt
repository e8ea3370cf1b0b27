-- A plane of numbers whose rows are put anew one after the other, each lent whole: where a row stands, and one row more.
use mathlib.Core.Path.{◌≡◌, refl, sym, ap, ap₂, ◌∙◌}
use mathlib.Core.List.{List, [], ◌∷◌, ◌++◌}
use Prim.Native.Nat.{ℕ, zero, suc, ◌+◌, ◌-◌, ◌*◌, ◌/◌, ◌≤◌, ◌<◌}
use native.Mathlib.Nat.{zero-mul, mul_assoc, mul_comm, mul_left_comm}
use native.Mathlib.Omega.{arith}
use borrow.Rule.Slice.PartMut.{mid_of, put_mid, mid_len, same_len_mid}
use lib.ListN.{length, get_or, take, drop}
use lib.Seq.{length-take-le, take-take}
use Rattle.grids.specs.Table.{table}
use Rattle.grids.specs.Rows.{rows_of}
use Rattle.grids.proofs.Tables.{each-table}
use Rattle.grids.proofs.Rows.{part_end, rows_of_at, rows_of-flat}
use Rattle.grids.proofs.Filled.{Filled}
use Rattle.pictures.specs.Limits.{most_side, most_pixels}
use Rattle.pictures.specs.declared.sizes.Size.{Size}
use Rattle.pictures.specs.Numbers.{two_bytes, numbers_in}
use Rattle.pictures.specs.Refusals.{refusal}
use Rattle.pictures.specs.Pictures.{side_rules}
use Rattle.pictures.proofs.Limits.{sides_are}
use Rattle.pictures.proofs.TwoBytes.{numbers-take, numbers-drop, numbers-row, length-numbers}
use Rattle.seam_planes.specs.Planes.{numbers_of, plane_bytes}
use Rattle.seam_planes.proofs.Lent.{whole_turn, front_lent}

-- A plane has a row of two bytes a pixel for each of the picture's.
pub plane_rows : (z : Size) → plane_bytes z ≡ z.height * (2 * z.width)
plane_rows z = sym (mul_assoc 2 z.height z.width) ∙ ap (◌* z.width) (mul_comm 2 z.height) ∙ mul_assoc z.height 2 z.width

-- What the loop's arithmetic needs.
pub record RowSure (z : Size) (r plane : ℕ) : Type 0 where
  pub narrow : z.width ≤ most_side
  pub few : plane ≤ 2 * most_pixels
  pub end : r * (2 * z.width) + 2 * z.width ≤ plane

pub row_sure : (z : Size) (r plane : ℕ) → refusal (side_rules z) ≡ 0 → plane ≡ plane_bytes z → r < z.height → RowSure z r plane
row_sure z r plane sides room l =
    let s = sides_are z sides in
    record { narrow = s.width_small; few = omega (arith, s.pixels_most); end = omega (arith, part_end r z.height (2 * z.width) l, plane_rows z) }

-- The numbers of bytes that follow whole numbers, and of bytes into which whole numbers were put.
numbers_append : (n : ℕ) (b d : List ℕ) → length b ≡ 2 * n → numbers_in (b ++ d) ≡ numbers_in b ++ numbers_in d
numbers_append zero [] d e = refl
numbers_append zero (x ∷ b) d e = absurd (omega arith)
numbers_append (suc n) [] d e = absurd (omega arith)
numbers_append (suc n) (x ∷ []) d e = absurd (omega arith)
numbers_append (suc n) (x ∷ y ∷ b) d e = ap (two_bytes x y ∷◌) (numbers_append n b d (omega arith))

numbers_put : (i k : ℕ) (b new : List ℕ) → 2 * i ≤ length b → length new ≡ 2 * k → numbers_in (put_mid (2 * i) (2 * k) b new) ≡ put_mid i k (numbers_in b) (numbers_in new)
numbers_put i k b new l e =
    numbers_append i (take (2 * i) b) (new ++ drop (2 * k) (drop (2 * i) b)) (length-take-le (2 * i) b l)
    ∙ ap₂ ◌++◌ (numbers-take i b)
    (numbers_append k new (drop (2 * k) (drop (2 * i) b)) e ∙ ap (numbers_in new ++◌) (numbers-drop k (drop (2 * i) b) ∙ ap (drop k) (numbers-drop i b)))

-- What the loop keeps, of a plane of h rows of m numbers: r rows hold the numbers that they are to, and after them stands what stood there.
pub record NumbersPut (q : ℕ → List ℕ) (m h : ℕ) (old : List ℕ) (r : ℕ) (now : List ℕ) : Type 0 where
  pub within : r ≤ h
  pub long : length now ≡ length old
  pub is : Filled q m (numbers_in old) r (numbers_in now)

module _ (q : ℕ → List ℕ) (m h : ℕ) (wide : (i : ℕ) → i < h → length (q i) ≡ m) (old : List ℕ) (long : length old ≡ h * (2 * m)) where
  room : h * m ≤ length (numbers_in old)
  room = omega (arith, length-numbers old, long, mul_left_comm h 2 m)

  pub numbers_start : NumbersPut q m h old 0 old
  numbers_start = record { within = omega arith; long = refl; is = rw (zero-mul m) }

  module _ (r at end : ℕ) (now : List ℕ) (inside : r < h) (from : at ≡ r * (2 * m)) (to : end ≡ at + 2 * m) (so_far : NumbersPut q m h old r now) where
    part : end - at ≡ 2 * m
    part = omega arith

    lent_length : length (mid_of at (end - at) now) ≡ 2 * m
    lent_length = mid_len at end now (omega (arith, part_end r h (2 * m) inside, so_far.long)) ∙ part

    -- The row that is lent holds the numbers that it held.
    pub lent_numbers : numbers_in (mid_of at (end - at) now) ≡ get_or (numbers_of m h old) r []
    lent_numbers =
        rw (part, from)
        (numbers-row m r now
        ∙ front_lent q h m wide (numbers_in old) room r (numbers_in now) inside so_far.is m (omega arith)
        ∙ take-take m m (drop (r * m) (numbers_in old)) (omega arith)
        ∙ sym (rows_of_at m h (numbers_in old) r inside))

    -- It comes back with those that it is to hold.
    pub lent_turn : (new : List ℕ) → length new ≡ length (mid_of at (end - at) now) → numbers_in new ≡ q r → NumbersPut q m h old (r + 1) (put_mid at (end - at) now new)
    lent_turn new same is =
        let twice : r * (2 * m) ≡ 2 * (r * m) = mul_left_comm r 2 m in
        let fits : 2 * (r * m) ≤ length now = omega (arith, part_end r h (2 * m) inside, so_far.long) in
        let numbers = numbers_put (r * m) m now new fits (same ∙ lent_length) in
        record {
          within = omega arith;
          long = same_len_mid at (end - at) now new same ∙ so_far.long;
          is = rw (part, from, twice, numbers) (whole_turn q h m wide (numbers_in old) room r (numbers_in now) inside so_far.is (numbers_in new) is counts);
        }
      where
        counts : length (numbers_in now) ≡ length (numbers_in old)
        counts = length-numbers now ∙ ap (◌/ 2) so_far.long ∙ sym (length-numbers old)

  -- After the last row.
  pub numbers_end : (r : ℕ) (now : List ℕ) → h ≤ r → NumbersPut q m h old r now → numbers_of m h now ≡ table q h
  numbers_end r now l so =
      let e : r ≡ h = omega (arith, so.within) in
      ap (rows_of m h) (rw e at so.is) ∙ rows_of-flat (drop (h * m) (numbers_in old)) (each-table q h wide)
