-- Rows that hold each of 1 to k once and nothing above k.
use mathlib.Core.Path.{◌≡◌, refl, sym, ap, ◌∙◌}
use mathlib.Core.Logic.{◌↔◌}
use mathlib.Core.Bool.{Bool, true, false}
use mathlib.Core.List.{List, [], ◌∷◌, map}
use Prim.Native.Nat.{ℕ, zero, suc, ◌≤◌, ◌<◌}
use native.Mathlib.Omega.{arith}
use lib.Dec.{leb, eqb, eqb-zero-suc}
use borrow.Author.Tests.{leb-true, leb-false, eqb-true, eq-eqb, ne_eqb}
use lib.ListN.{length}
use Rattle.grids.proofs.Bools.{both, and_both}
use Rattle.seam_theory.specs.Paths.{run}
use Rattle.map_theory.specs.Maps.{insert_at, later, number_row}
use Rattle.map_theory.specs.Judged.{every, tick, count, column_of, numbers, Numbering, lower_row}
use Rattle.map_theory.proofs.Tests.{every-run}
use Rattle.map_theory.proofs.Numbers.{eqb_later, eqb_later-first, eqb_first}
use Rattle.map_theory.proofs.Lowered.{number-lower_row}

count_self : (v : ℕ) (ys : List ℕ) → count v (v ∷ ys) ≡ suc (count v ys)
count_self v ys = rw (eq-eqb v v refl)

count_tail : (v a : ℕ) (ys : List ℕ) → count v ys ≤ count v (a ∷ ys)
count_tail v a ys = go (eqb a v)
  where
    go : (b : Bool) → count v ys ≤ tick b (count v ys)
    go true = omega arith
    go false = omega arith

most-none : (k : ℕ) (ys : List ℕ) → every (λ v. leb v k) ys ≡ true → (t : ℕ) → k < t → count t ys ≡ 0
most-none k [] e t h = refl
most-none k (a ∷ ys) e t h =
    let b = both (leb a k) (every (λ v. leb v k) ys) e in
    rw (ne_eqb a t (λ q. omega (arith, leb-true a k b.0))) (most-none k ys b.1 t h)

none-most : (k : ℕ) (ys : List ℕ) → ((t : ℕ) → k < t → count t ys ≡ 0) → every (λ v. leb v k) ys ≡ true
none-most k [] h = refl
none-most k (a ∷ ys) h =
    and_both (leb a k) (every (λ v. leb v k) ys) (go (leb a k) refl) (none-most k ys (λ t l. omega (arith, h t l, count_tail t a ys)))
  where
    go : (b : Bool) → leb a k ≡ b → b ≡ true
    go true e = refl
    go false e = absurd (omega (arith, h a (leb-false a k e), count_self a ys))

-- The test of refusal 9 finds the numberings.
pub numbers_is : (k : ℕ) (ys : List ℕ) → (numbers k ys ≡ true) ↔ Numbering k ys
unfolding numbers
numbers_is k ys = (
  λ e. let b = both (every f (run 1 k)) (every g ys) e in
      record { once = λ t l h. eqb-true (count t ys) 1 ((every-run f k).0 b.0 t l h); none_above = most-none k ys b.1 },
  λ n. and_both (every f (run 1 k)) (every g ys) ((every-run f k).1 (λ t l h. eq-eqb (count t ys) 1 (n.once t l h))) (none-most k ys n.none_above),
)
  where
    f : ℕ → Bool
    f t = eqb (count t ys) 1

    g : ℕ → Bool
    g v = leb v k

-- So nothing in a numbering is above k.
pub numbering_most : (k : ℕ) (ys : List ℕ) → Numbering k ys → every (λ v. leb v k) ys ≡ true
numbering_most k ys n = none-most k ys n.none_above

count_insert : (v c a : ℕ) (ys : List ℕ) → count v (insert_at c a ys) ≡ count v (a ∷ ys)
count_insert v zero a ys = refl
count_insert v (suc c) a [] = refl
count_insert v (suc c) a (b ∷ ys) = rw (count_insert v c a ys) (swap (eqb a v) (eqb b v))
  where
    swap : (p q : Bool) → tick q (tick p (count v ys)) ≡ tick p (tick q (count v ys))
    swap true true = refl
    swap true false = refl
    swap false true = refl
    swap false false = refl

count-later : (t : ℕ) (ys : List ℕ) → count (suc (suc t)) (map later ys) ≡ count (suc t) ys
count-later t [] = refl
count-later t (v ∷ ys) = rw (eqb_later t v, count-later t ys)

count-later-first : (ys : List ℕ) → count 1 (map later ys) ≡ 0
count-later-first [] = refl
count-later-first (v ∷ ys) = rw (eqb_later-first v, count-later-first ys)

count-first : (c : ℕ) (ys : List ℕ) → count 1 (number_row c ys) ≡ 1
unfolding number_row
count-first c ys = count_insert 1 c 1 (map later ys) ∙ ap suc (count-later-first ys)

count-number : (t c : ℕ) (ys : List ℕ) → count (suc (suc t)) (number_row c ys) ≡ count (suc t) ys
unfolding number_row
count-number t c ys = count_insert (suc (suc t)) c 1 (map later ys) ∙ rw (eqb_first t) (count-later t ys)

-- One more seam first: one more number.
pub numbering_number : (k c : ℕ) (ys : List ℕ) → Numbering k ys → Numbering (suc k) (number_row c ys)
numbering_number k c ys n = record { once = once; none_above = above }
  where
    once : (t : ℕ) → 1 ≤ t → t ≤ suc k → count t (number_row c ys) ≡ 1
    once zero l h = absurd (omega arith)
    once (suc zero) l h = count-first c ys
    once (suc (suc t)) l h = count-number t c ys ∙ n.once (suc t) (omega arith) (omega arith)

    above : (t : ℕ) → suc k < t → count t (number_row c ys) ≡ 0
    above zero h = absurd (omega arith)
    above (suc zero) h = absurd (omega arith)
    above (suc (suc t)) h = count-number t c ys ∙ n.none_above (suc t) (omega arith)

count_zeros : {A : Type 0} (t : ℕ) (xs : List A) → count (suc t) (map (λ x. 0) xs) ≡ 0
count_zeros t [] = refl
count_zeros t (x ∷ xs) = rw (eqb-zero-suc t) (count_zeros t xs)

pub numbering_zeros : {A : Type 0} (xs : List A) → Numbering 0 (map (λ x. 0) xs)
numbering_zeros xs = record { once = λ t l h. absurd (omega arith); none_above = above }
  where
    above : (t : ℕ) → 0 < t → count t (map (λ x. 0) xs) ≡ 0
    above zero h = absurd (omega arith)
    above (suc t) h = count_zeros t xs

-- At depth 0 a row is all zeros.
pub numbering_none : {A : Type 0} (xs : List A) (ys : List ℕ) → length xs ≡ length ys → Numbering 0 ys → ys ≡ map (λ x. 0) xs
numbering_none [] [] e n = refl
numbering_none [] (v ∷ ys) e n = absurd (omega arith)
numbering_none (x ∷ xs) [] e n = absurd (omega arith)
numbering_none (x ∷ xs) (zero ∷ ys) e n =
    ap (0 ∷◌) (numbering_none xs ys (omega arith) (record { once = λ t l h. absurd (omega arith); none_above = λ t h. omega (arith, n.none_above t h, count_tail t 0 ys) }))
numbering_none (x ∷ xs) (suc v ∷ ys) e n = absurd (omega (arith, n.none_above (suc v) (omega arith), count_self (suc v) ys))

-- After the first seam: one number less.
pub numbering_lower : (k : ℕ) (ys : List ℕ) → Numbering (suc k) ys → Numbering k (lower_row 1 ys)
numbering_lower k ys n = record { once = once; none_above = above }
  where
    less : (t : ℕ) → count (suc t) (lower_row 1 ys) ≡ count (suc (suc t)) ys
    less t = sym (count-number t (column_of 1 ys) (lower_row 1 ys)) ∙ ap (count (suc (suc t))) (number-lower_row ys (n.once 1 (omega arith) (omega arith)))

    once : (t : ℕ) → 1 ≤ t → t ≤ k → count t (lower_row 1 ys) ≡ 1
    once zero l h = absurd (omega arith)
    once (suc t) l h = less t ∙ n.once (suc (suc t)) (omega arith) (omega arith)

    above : (t : ℕ) → k < t → count t (lower_row 1 ys) ≡ 0
    above zero h = absurd (omega arith)
    above (suc t) h = less t ∙ n.none_above (suc (suc t)) (omega arith)
