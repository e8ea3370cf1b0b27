-- The columns of the numbers of a row: each stored once the numbers ahead of it are counted.
use mathlib.Core.Path.{◌≡◌, refl, sym, ap, ◌∙◌}
use mathlib.Core.Bool.{Bool, true, false, cond, not}
use mathlib.Core.List.{List, [], ◌∷◌, ◌++◌}
use Prim.Native.Nat.{ℕ, zero, suc, ◌+◌, ◌≤◌, ◌<◌}
use native.Mathlib.Numerals.{add-one}
use native.Mathlib.Omega.{arith}
use lib.Dec.{eqb, leb}
use borrow.Author.Tests.{eqb-true, eqb-false, eq-eqb, ne_eqb, leb-true}
use lib.ListN.{length, get_or, set, take, drop}
use lib.Seq.{drop-cons, take-suc}
use Rattle.std.proofs.lemmas.Grind.{get_or-set_at}
use Rattle.std.proofs.lemmas.List.{get_or-set_other, take-append-drop}
use Rattle.grids.specs.Rows.{rows_of, row_at}
use Rattle.grids.proofs.Bools.{both}
use Rattle.grids.proofs.Rows.{length-rows_of, rows_of_at}
use Rattle.grids.proofs.Shapes.{each_at, each_any}
use Rattle.map_theory.specs.Judged.{every, tick, count, doubled_in, numbers, remains, column_of}
use Rattle.map_theory.proofs.Tests.{every-each}
use Rattle.map_theory.proofs.Numbers.{doubled-not}
use Rattle.map_theory.proofs.Doubled.{doubled_numbering}
use Rattle.map_theory.proofs.Numberings.{numbers_is, numbering_most}
use Rattle.map_check.specs.Inner.Columns.{left_in, ColumnsOf}

-- The column of a number is what is left of the numbers ahead of it, where it doesn't stand among these.
column_after : (t : ℕ) (xs ys : List ℕ) → count t xs ≡ 0 → column_of t (xs ++ (t ∷ ys)) ≡ left_in t xs
column_after t [] ys e = rw (eq-eqb t t refl) refl
column_after t (a ∷ xs) ys e = go (eqb a t) refl e (column_after t xs ys)
  where
    go : (b : Bool) → eqb a t ≡ b → tick b (count t xs) ≡ 0 → (count t xs ≡ 0 → column_of t (xs ++ (t ∷ ys)) ≡ left_in t xs)
        → column_of t (a ∷ (xs ++ (t ∷ ys))) ≡ left_in t (a ∷ xs)
    go true q z ih = absurd (omega arith)
    go false q z ih = rw q (ap (tick (remains t a)) (ih z))

-- It is at most the length of the row.
pub column-most : (t : ℕ) (ys : List ℕ) → column_of t ys ≤ length ys
column-most t [] = omega arith
column-most t (v ∷ ys) = go (eqb v t) (remains t v) (column-most t ys)
  where
    go : (a b : Bool) → column_of t ys ≤ length ys → cond a 0 (tick b (column_of t ys)) ≤ suc (length ys)
    go true b ih = omega arith
    go false true ih = omega arith
    go false false ih = omega arith

-- One number more counted.
count_snoc : (t v : ℕ) (xs : List ℕ) → count t (xs ++ (v ∷ [])) ≡ tick (eqb v t) (count t xs)
count_snoc t v [] = refl
count_snoc t v (a ∷ xs) = rw (count_snoc t v xs) (swap (eqb a t) (eqb v t))
  where
    swap : (p q : Bool) → tick p (tick q (count t xs)) ≡ tick q (tick p (count t xs))
    swap true true = refl
    swap true false = refl
    swap false true = refl
    swap false false = refl

-- What is left of a row is left of its two parts; of a numbering seams 1 to u take u pixels.
pub left_parts : (t c : ℕ) (row : List ℕ) → left_in t (take c row) + left_in t (drop c row) ≡ left_in t row
left_parts t c row = sym (left_append (take c row)) ∙ ap (left_in t) (take-append-drop c row)
  where
    left_append : (xs : List ℕ) → left_in t (xs ++ drop c row) ≡ left_in t xs + left_in t (drop c row)
    left_append [] = omega arith
    left_append (v ∷ xs) = go (remains t v) (left_append xs)
      where
        go : (b : Bool) → left_in t (xs ++ drop c row) ≡ left_in t xs + left_in t (drop c row)
            → tick b (left_in t (xs ++ drop c row)) ≡ tick b (left_in t xs) + left_in t (drop c row)
        go true e = omega arith
        go false e = e

pub left_numbering : (k t : ℕ) (row : List ℕ) → numbers k row ≡ true → 1 ≤ t → t ≤ k → left_in t row + t ≡ length row + 1
left_numbering k zero row e l h = absurd (omega arith)
left_numbering k (suc u) row e l h = omega (arith, rest row, doubled_numbering k u row ((numbers_is k row).0 e) (omega arith))
  where
    rest : (ys : List ℕ) → left_in (suc u) ys + doubled_in u ys ≡ length ys
    rest [] = refl
    rest (v ∷ ys) = rw (doubled-not u v) (go (remains (suc u) v) (rest ys))
      where
        go : (b : Bool) → left_in (suc u) ys + doubled_in u ys ≡ length ys → tick b (left_in (suc u) ys) + tick (not b) (doubled_in u ys) ≡ suc (length ys)
        go true e = omega arith
        go false e = omega arith

-- Of each number that stands once among the first n of a row, the column is stored.
abbrev pub Held : List ℕ → ℕ → List ℕ → Type 0
Held row n columns = (t : ℕ) → 1 ≤ t → count t (take n row) ≡ 1 → get_or columns t 0 ≡ column_of t row

module _ (row columns : List ℕ) (n : ℕ) (inside : n < length row) where
  count_next : (t : ℕ) → count t (take (n + 1) row) ≡ tick (eqb (get_or row n 0) t) (count t (take n row))
  count_next t = rw (add-one n) (ap (count t) (take-suc row n 0 inside) ∙ count_snoc t (get_or row n 0) (take n row))

  split : row ≡ take n row ++ (get_or row n 0 ∷ drop (suc n) row)
  split = sym (take-append-drop n row) ∙ ap (take n row ++◌) (drop-cons row n 0 inside)

  -- One number more: its column is stored, or it is 0.
  pub held_turn : (x : ℕ) → get_or row n 0 < length columns → x ≡ left_in (get_or row n 0) (take n row) → Held row n columns → Held row (n + 1) (set columns (get_or row n 0) x)
  held_turn x room is held t l e = go (eqb (get_or row n 0) t) refl (sym (count_next t) ∙ e)
    where
      go : (b : Bool) → eqb (get_or row n 0) t ≡ b → tick b (count t (take n row)) ≡ 1 → get_or (set columns (get_or row n 0) x) t 0 ≡ column_of t row
      go true q once =
          let same : get_or row n 0 ≡ t = eqb-true (get_or row n 0) t q in
          let none : count t (take n row) ≡ 0 = omega arith in
          get_or-set_at columns (get_or row n 0) t x 0 (sym same) room ∙ is ∙ ap (λ u. left_in u (take n row)) same
          ∙ sym (column_after t (take n row) (drop (suc n) row) none)
          ∙ ap (λ u. column_of t (take n row ++ (u ∷ drop (suc n) row))) (sym same)
          ∙ ap (column_of t) (sym split)
      go false q once = get_or-set_other columns (get_or row n 0) t x 0 (λ s. eqb-false (get_or row n 0) t q (sym s)) ∙ held t l once

  pub held_zero : get_or row n 0 ≡ 0 → Held row n columns → Held row (n + 1) columns
  held_zero z held t l e =
      let other : eqb (get_or row n 0) t ≡ false = ne_eqb (get_or row n 0) t (λ s. omega arith) in
      held t l (sym (ap (λ b. tick b (count t (take n row))) other) ∙ sym (count_next t) ∙ e)

-- No number of a numbering is over k, and nothing but 0 stands past its end.
pub numbers_below : (k : ℕ) (row : List ℕ) → numbers k row ≡ true → (c : ℕ) → get_or row c 0 ≤ k
numbers_below k row e = most row (numbering_most k row ((numbers_is k row).0 e))
  where
    most : (ys : List ℕ) → every (λ v. leb v k) ys ≡ true → (c : ℕ) → get_or ys c 0 ≤ k
    most [] q c = omega arith
    most (v ∷ ys) q zero = leb-true v k (both (leb v k) (every (λ v. leb v k) ys) q).0
    most (v ∷ ys) q (suc c) = most ys (both (leb v k) (every (λ v. leb v k) ys) q).1 c

-- A row of a map is a numbering where all rows are.
pub row_numbered : (k w h : ℕ) (ys : List ℕ) (r : ℕ) → r < h → every (numbers k) (rows_of w h ys) ≡ true → numbers k (row_at w r ys) ≡ true
row_numbered k w h ys r l e =
    ap (numbers k) (sym (rows_of_at w h ys r l)) ∙ each_at r [] l (every-each (numbers k) (λ y p. p) (each_any h (rows_of w h ys) (length-rows_of w h ys)) e)

-- The column stored for number t of a numbering.
pub column_is : (k t : ℕ) (row columns : List ℕ) → numbers k row ≡ true → ColumnsOf row columns → 1 ≤ t → t ≤ k → get_or columns t 0 ≡ column_of t row
column_is k t row columns e c l h = c.column t l (((numbers_is k row).0 e).once t l h)
