-- Laws of one row of a map with one more seam cut first: what is kept, the column of a seam, the next number written.
use mathlib.Core.Path.{◌≡◌, refl, sym, ap, ◌∙◌}
use mathlib.Core.Bool.{Bool}
use mathlib.Core.List.{List, [], ◌∷◌, map}
use Prim.Native.Nat.{ℕ, zero, suc, ◌≤◌, ◌<◌}
use native.Mathlib.Omega.{arith}
use lib.ListN.{length, length-map}
use Rattle.grids.specs.Cut.{remove_at}
use Rattle.map_theory.specs.Maps.{insert_at, later, number_row}
use Rattle.map_theory.specs.Widths.{keep_row}
use Rattle.map_theory.specs.Judged.{remains, column_of}
use Rattle.map_theory.proofs.Numbers.{remains-all, remains-later, remains-first, eqb_later, eqb_later-first, eqb_first}

pub length-insert_at : {A : Type 0} (c : ℕ) (a : A) (xs : List A) → length (insert_at c a xs) ≡ suc (length xs)
length-insert_at zero a xs = refl
length-insert_at (suc c) a [] = refl
length-insert_at (suc c) a (x ∷ xs) = ap suc (length-insert_at c a xs)

pub length-number_row : (c : ℕ) (ys : List ℕ) → length (number_row c ys) ≡ suc (length ys)
unfolding number_row
length-number_row c ys = length-insert_at c 1 (map later ys) ∙ ap suc (length-map ys later)

module _ {A : Type 0} where
  -- Before seam 1 all of a row is left.
  pub keep_all : (xs : List A) (ys : List ℕ) → length xs ≡ length ys → keep_row (remains 1) xs ys ≡ xs
  keep_all [] ys e = refl
  keep_all (x ∷ xs) [] e = absurd (omega arith)
  keep_all (x ∷ xs) (v ∷ ys) e = rw (remains-all v, keep_all xs ys (omega arith))

  keep_nil : (f : ℕ → Bool) (xs : List A) → keep_row f xs [] ≡ []
  keep_nil f [] = refl
  keep_nil f (x ∷ xs) = refl

  keep_later : (t : ℕ) (xs : List A) (ys : List ℕ) → keep_row (remains (suc (suc t))) xs (map later ys) ≡ keep_row (remains (suc t)) xs ys
  keep_later t [] ys = refl
  keep_later t (x ∷ xs) [] = refl
  keep_later t (x ∷ xs) (v ∷ ys) = rw (remains-later t v, keep_later t xs ys)

  -- What is left of a row before seam t + 1, where one more is cut first, is what is left before seam t of the row cut.
  pub keep_number_row : (t c : ℕ) (xs : List A) (ys : List ℕ) → keep_row (remains (suc (suc t))) xs (number_row c ys) ≡ keep_row (remains (suc t)) (remove_at c xs) ys
  unfolding number_row remove_at
  keep_number_row t c [] ys = refl
  keep_number_row t zero (x ∷ xs) ys = rw (remains-first t) (keep_later t xs ys)
  keep_number_row t (suc c) (x ∷ xs) [] = rw (remains-first t, keep_nil (remains (suc (suc t))) xs, keep_nil (remains (suc t)) (x ∷ remove_at c xs))
  keep_number_row t (suc c) (x ∷ xs) (v ∷ ys) = rw (remains-later t v, keep_number_row t c xs ys)

-- The column of the seam that is cut first,
pub column-first_row : (c : ℕ) (ys : List ℕ) → c ≤ length ys → column_of 1 (number_row c ys) ≡ c
unfolding number_row
column-first_row zero ys h = refl
column-first_row (suc c) [] h = absurd (omega arith)
column-first_row (suc c) (v ∷ ys) h = rw (eqb_later-first v, remains-all (later v)) (ap suc (column-first_row c ys (omega arith)))

column-later : (t : ℕ) (ys : List ℕ) → column_of (suc (suc t)) (map later ys) ≡ column_of (suc t) ys
column-later t [] = refl
column-later t (v ∷ ys) = rw (eqb_later t v, remains-later t v, column-later t ys)

-- and of each other.
pub column-number_row : (t c : ℕ) (ys : List ℕ) → column_of (suc (suc t)) (number_row c ys) ≡ column_of (suc t) ys
unfolding number_row
column-number_row t zero ys = rw (eqb_first t, remains-first t) (column-later t ys)
column-number_row t (suc c) [] = rw (eqb_first t, remains-first t)
column-number_row t (suc c) (v ∷ ys) = rw (eqb_later t v, remains-later t v, column-number_row t c ys)

-- v written over the s-th 0: the s-th pixel not yet taken.
abbrev pub write : ℕ → ℕ → List ℕ → List ℕ
write v s [] = []
write v s (suc a ∷ ys) = suc a ∷ write v s ys
write v zero (zero ∷ ys) = v ∷ ys
write v (suc s) (zero ∷ ys) = zero ∷ write v s ys

pub length-write : (v s : ℕ) (ys : List ℕ) → length (write v s ys) ≡ length ys
length-write v s [] = refl
length-write v s (suc a ∷ ys) = ap suc (length-write v s ys)
length-write v zero (zero ∷ ys) = refl
length-write v (suc s) (zero ∷ ys) = ap suc (length-write v s ys)

write-later : (t s : ℕ) (ys : List ℕ) → write (suc (suc t)) s (map later ys) ≡ map later (write (suc t) s ys)
write-later t s [] = refl
write-later t s (suc a ∷ ys) = ap (suc (suc a) ∷◌) (write-later t s ys)
write-later t zero (zero ∷ ys) = refl
write-later t (suc s) (zero ∷ ys) = ap (zero ∷◌) (write-later t s ys)

-- The next number, where one more seam is cut first.
pub write-number_row : (t s c : ℕ) (ys : List ℕ) → write (suc (suc t)) s (number_row c ys) ≡ number_row c (write (suc t) s ys)
unfolding number_row
write-number_row t s zero ys = ap (1 ∷◌) (write-later t s ys)
write-number_row t s (suc c) [] = refl
write-number_row t s (suc c) (suc a ∷ ys) = ap (suc (suc a) ∷◌) (write-number_row t s c ys)
write-number_row t zero (suc c) (zero ∷ ys) = refl
write-number_row t (suc s) (suc c) (zero ∷ ys) = ap (zero ∷◌) (write-number_row t s c ys)

later-zeros : {A : Type 0} (xs : List A) → map later (map (λ x. 0) xs) ≡ map (λ x. 0) xs
later-zeros [] = refl
later-zeros (x ∷ xs) = ap (0 ∷◌) (later-zeros xs)

-- The first number.
pub write-first_row : {A : Type 0} (c : ℕ) (xs : List A) → c < length xs → write 1 c (map (λ x. 0) xs) ≡ number_row c (map (λ x. 0) (remove_at c xs))
unfolding number_row remove_at
write-first_row c [] h = absurd (omega arith)
write-first_row zero (x ∷ xs) h = ap (1 ∷◌) (sym (later-zeros xs))
write-first_row (suc c) (x ∷ xs) h = ap (0 ∷◌) (write-first_row c xs (omega arith))
