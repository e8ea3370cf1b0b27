-- Numbers put into a row, and rows of them into a plane.
use mathlib.Core.Path.{◌≡◌, refl, sym, ap, ◌∙◌}
use mathlib.Core.List.{List, [], ◌∷◌, ◌++◌, map, append-nil}
use Prim.Native.Nat.{ℕ, zero, suc, ◌+◌, ◌-◌, ◌*◌, ◌%◌, ◌≤◌, ◌<◌}
use native.Mathlib.Nat.{zero-mul, le_of_eq}
use native.Mathlib.Omega.{arith}
use borrow.Rule.Slice.PartMut.{mid_of, put_mid, same_len_mid, mid_len}
use lib.ListN.{length, get_or, drop, set, drop_of_length-le}
use Rattle.grids.specs.Table.{table}
use Rattle.grids.specs.Rows.{rows_of, flat}
use Rattle.grids.proofs.Tables.{table-all, table_same, each-table}
use Rattle.grids.proofs.Rows.{part_end, rows_of-flat}
use Rattle.grids.proofs.Filled.{Filled, map-table}
use Rattle.pictures.specs.Numbers.{largest_number, two_bytes, low_byte, high_byte, pairs, numbers_in}
use Rattle.pictures.proofs.TwoBytes.{two_bytes_lem, length_pairs, numbers-pairs}
use Rattle.seam_planes.specs.Planes.{numbers_of}
use Rattle.seam_planes.proofs.Lent.{whole_turn}
use Rattle.seam_planes.proofs.Elements.{numbers_rows}

-- The two bytes of a number.
abbrev pub pair : ℕ → List ℕ
pair v = low_byte v ∷ high_byte v ∷ []

pairs_joined : (ys : List ℕ) → pairs ys ≡ flat (map pair ys)
pairs_joined [] = refl
pairs_joined (v ∷ ys) = ap (λ r. low_byte v ∷ high_byte v ∷ r) (pairs_joined ys)

pairs_table : (ys : List ℕ) → pairs ys ≡ flat (table (λ i. pair (get_or ys i 0)) (length ys))
pairs_table ys = pairs_joined ys ∙ ap flat (ap (map pair) (sym (table-all ys 0)) ∙ map-table pair (λ i. get_or ys i 0) (length ys))

-- The loop over a row: the lower two bytes of the first c numbers are put.
abbrev pub lower : List ℕ → ℕ → List ℕ
lower ys i = pair (get_or ys i 0 % 65536)

module _ (ys old : List ℕ) (long : length old ≡ 2 * length ys) where
  pub put_turn : (c at end : ℕ) (now new : List ℕ) → c < length ys → length now ≡ length old → at ≡ 2 * c → end ≡ at + 2 → new ≡ lower ys c
      → Filled (lower ys) 2 old c now → Filled (lower ys) 2 old (c + 1) (put_mid at (end - at) now new)
  put_turn c at end now new l same p q is so =
      let k : end - at ≡ 2 = omega arith in
      let e : at ≡ c * 2 = omega arith in
      rw (k, e) (whole_turn (lower ys) (length ys) 2 (λ i h. refl) old (omega (arith, long)) c now l so new is same)

  pub put_end : (now : List ℕ) → ((i : ℕ) → get_or ys i 0 ≤ largest_number) → Filled (lower ys) 2 old (length ys) now → now ≡ pairs ys
  put_end now small so =
      so ∙ ap (flat (table (lower ys) (length ys)) ++◌) (drop_of_length-le old {i = length ys * 2} (omega (arith, long))) ∙ append-nil (flat (table (lower ys) (length ys)))
      ∙ ap flat (table_same (lower ys) (λ i. pair (get_or ys i 0)) (length ys) (λ i l. let e : get_or ys i 0 % 65536 ≡ get_or ys i 0 = omega (arith, small i) in ap pair e))
      ∙ sym (pairs_table ys)

-- One number put into a row of numbers.
pub number_put : (c v : ℕ) (x : List ℕ) → 2 * c + 2 ≤ length x → numbers_in (put_mid (2 * c) 2 x (pair v)) ≡ set (numbers_in x) c v
number_put zero v [] h = absurd (omega arith)
number_put zero v (a ∷ []) h = absurd (omega arith)
number_put zero v (a ∷ b ∷ x) h = ap (◌∷ numbers_in x) (two_bytes_lem v)
number_put (suc c) v [] h = absurd (omega arith)
number_put (suc c) v (a ∷ []) h = absurd (omega arith)
number_put (suc c) v (a ∷ b ∷ x) h =
    let e : 2 * suc c ≡ suc (suc (2 * c)) = omega arith in
    rw e (ap (two_bytes a b ∷◌) (number_put c v x (omega arith)))

-- The numbers of a plane whose rows are as `f` says.
numbers_filled : (f : ℕ → List ℕ) (m h : ℕ) (old now : List ℕ) → ((i : ℕ) → i < h → length (f i) ≡ 2 * m) → Filled f (2 * m) old h now
    → numbers_of m h now ≡ table (λ i. numbers_in (f i)) h
numbers_filled f m h old now size so =
    numbers_rows m h now
    ∙ ap (map numbers_in) (ap (rows_of (2 * m) h) so ∙ rows_of-flat (drop (h * (2 * m)) old) (each-table f h size))
    ∙ map-table numbers_in f h

-- A plane of h rows of m numbers that a loop fills row by row, as it stands before row r is put. Row i becomes `q i`.
pub record RowsPut (q : ℕ → List ℕ) (m h : ℕ) (old : List ℕ) (r : ℕ) (now : List ℕ) : Type 0 where
  pub within : r ≤ h
  pub long : length now ≡ length old
  pub is : Filled (λ i. pairs (q i)) (2 * m) old r now

module _ (q : ℕ → List ℕ) (m h : ℕ) (wide : (i : ℕ) → i < h → length (q i) ≡ m) (old : List ℕ) (long : length old ≡ h * (2 * m)) where
  size : (i : ℕ) → i < h → length (pairs (q i)) ≡ 2 * m
  size i l = length_pairs (q i) ∙ ap (2 *◌) (wide i l)

  pub rows_put_start : RowsPut q m h old 0 old
  rows_put_start = record { within = omega arith; long = refl; is = rw (zero-mul (2 * m)) }

  pub rows_put_turn : (r at end : ℕ) (now new : List ℕ) → r < h → at ≡ r * (2 * m) → end ≡ at + 2 * m → new ≡ pairs (q r)
      → RowsPut q m h old r now → RowsPut q m h old (r + 1) (put_mid at (end - at) now new)
  rows_put_turn r at end now new l p e is so =
      let k : end - at ≡ 2 * m = omega arith in
      let turn = whole_turn (λ i. pairs (q i)) h (2 * m) size old (le_of_eq (sym long)) r now l so.is new is so.long in
      let room : length (mid_of at (end - at) now) ≡ end - at = mid_len at end now (omega (arith, part_end r h (2 * m) l, so.long)) in
      record {
        within = omega arith;
        long = same_len_mid at (end - at) now new (omega (arith, ap length is, size r l, room)) ∙ so.long;
        is = rw (k, p) turn;
      }

  pub rows_put_end : (r : ℕ) (now : List ℕ) → h ≤ r → RowsPut q m h old r now → numbers_of m h now ≡ table q h
  rows_put_end r now l so =
      let e : r ≡ h = omega (arith, so.within) in
      numbers_filled (λ i. pairs (q i)) m h old now size (rw e at so.is)
      ∙ table_same (λ i. numbers_in (pairs (q i))) q h (λ i x. numbers-pairs (q i))
