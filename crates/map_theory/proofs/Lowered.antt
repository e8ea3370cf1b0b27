-- A map after some seams: the numbers that are left, less as many. Laws of one row.
use mathlib.Core.Path.{◌≡◌, refl, sym, ap, ap₂, ◌∙◌}
use mathlib.Core.Bool.{Bool, true, false, cond}
use mathlib.Core.List.{List, [], ◌∷◌, map}
use Prim.Native.Nat.{ℕ, zero, suc, ◌-◌, ◌<◌}
use native.Mathlib.Omega.{arith}
use lib.Dec.{eqb, eqb-suc-zero, eqb-suc-suc}
use lib.ListN.{length}
use Rattle.seam_theory.specs.Paths.{cons_if}
use Rattle.map_theory.specs.Maps.{insert_at, later, number_row}
use Rattle.map_theory.specs.Widths.{keep_row}
use Rattle.map_theory.specs.Judged.{tick, count, remains, lower_row, column_of}
use Rattle.map_theory.proofs.Numbers.{remains_zero, remains-all, remains-le, remains-later, remains-first, later-less}
use Rattle.map_theory.proofs.Rows.{length-number_row}

pub lower_zero_row : (ys : List ℕ) → lower_row 0 ys ≡ ys
unfolding lower_row
lower_zero_row [] = refl
lower_zero_row (v ∷ ys) =
    let z : v - 0 ≡ v = omega arith in
    rw (remains-all v, z) (ap (v ∷◌) (lower_zero_row ys))

-- An element more in front, kept in both or in neither.
lower-cons : (t a b : ℕ) (u : Bool) (xs ys : List ℕ) → a - suc t ≡ b - t → map (λ v. v - suc t) xs ≡ map (λ v. v - t) ys
    → map (λ v. v - suc t) (cons_if u a xs) ≡ map (λ v. v - t) (cons_if u b ys)
lower-cons t a b true xs ys p e = ap₂ ◌∷◌ p e
lower-cons t a b false xs ys p e = e

lower-later : (t : ℕ) (ys : List ℕ) → lower_row (suc t) (map later ys) ≡ lower_row t ys
unfolding lower_row
lower-later t [] = refl
lower-later t (v ∷ ys) =
    rw (remains-later t v)
    (lower-cons t (later v) v (remains (suc t) v) (keep_row (remains (suc (suc t))) (map later ys) (map later ys)) (keep_row (remains (suc t)) ys ys) (later-less t v) (lower-later t ys))

-- Where one more seam is cut first, the row after t + 1 seams is what it was after t.
pub lower-number_row : (t c : ℕ) (ys : List ℕ) → lower_row (suc t) (number_row c ys) ≡ lower_row t ys
unfolding lower_row number_row
lower-number_row t zero ys = rw (remains-first t) (lower-later t ys)
lower-number_row t (suc c) [] = rw (remains-first t)
lower-number_row t (suc c) (v ∷ ys) =
    let zs : List ℕ = insert_at c 1 (map later ys) in
    rw (remains-later t v)
    (lower-cons t (later v) v (remains (suc t) v) (keep_row (remains (suc (suc t))) zs zs) (keep_row (remains (suc t)) ys ys) (later-less t v) (lower-number_row t c ys))

remains-two : (v : ℕ) → remains 2 (suc (suc v)) ≡ true
remains-two v = remains-le 2 (suc v) (omega arith)

not-one : (v : ℕ) → eqb (suc (suc v)) 1 ≡ false
not-one v = eqb-suc-suc (suc v) 0 ∙ eqb-suc-zero v

lower-none : (ys : List ℕ) → count 1 ys ≡ 0 → map later (lower_row 1 ys) ≡ ys
unfolding lower_row
lower-none [] e = refl
lower-none (zero ∷ ys) e = rw (remains_zero 2) (ap (0 ∷◌) (lower-none ys e))
lower-none (suc zero ∷ ys) e = absurd (omega arith)
lower-none (suc (suc v) ∷ ys) e =
    let q : suc (suc v) - 1 ≡ suc v = omega arith in
    rw (remains-two v, q) (ap (suc (suc v) ∷◌) (lower-none ys (rw (not-one v) at e)))

-- A row with one 1 is its row after the first seam with this seam cut first.
pub number-lower_row : (ys : List ℕ) → count 1 ys ≡ 1 → number_row (column_of 1 ys) (lower_row 1 ys) ≡ ys
unfolding lower_row number_row
number-lower_row [] e = absurd (omega arith)
number-lower_row (zero ∷ ys) e = rw (remains_zero 2, remains_zero 1) (ap (0 ∷◌) (number-lower_row ys e))
number-lower_row (suc zero ∷ ys) e = rw (remains-first 0) (ap (1 ∷◌) (lower-none ys (omega arith)))
number-lower_row (suc (suc v) ∷ ys) e =
    let q : suc (suc v) - 1 ≡ suc v = omega arith in
    rw (not-one v, remains-two v, q, remains-all (suc (suc v))) (ap (suc (suc v) ∷◌) (number-lower_row ys (rw (not-one v) at e)))

pub length-lower_row : (ys : List ℕ) → count 1 ys ≡ 1 → suc (length (lower_row 1 ys)) ≡ length ys
length-lower_row ys e = sym (length-number_row (column_of 1 ys) (lower_row 1 ys)) ∙ ap length (number-lower_row ys e)

-- The first seam goes through a column of the row.
pub column_inside : (ys : List ℕ) → count 1 ys ≡ 1 → column_of 1 ys < length ys
column_inside [] e = absurd (omega arith)
column_inside (v ∷ ys) e = rw (remains-all v) (go (eqb v 1) (column_inside ys) e)
  where
    go : (b : Bool) → (count 1 ys ≡ 1 → column_of 1 ys < length ys) → tick b (count 1 ys) ≡ 1 → cond b 0 (suc (column_of 1 ys)) < suc (length ys)
    go true ih q = omega arith
    go false ih q = omega (arith, ih q)
