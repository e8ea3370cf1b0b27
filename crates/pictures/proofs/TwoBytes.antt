-- Laws of numbers in bytes: read back, how many, where each stands, parts and rows of them.
use mathlib.Core.Path.{◌≡◌, refl, sym, ap, ap₂, ◌∙◌}
use mathlib.Core.List.{List, [], ◌∷◌, ◌++◌, map, append-nil}
use Prim.Native.Nat.{ℕ, zero, suc, ◌+◌, ◌-◌, ◌*◌, ◌/◌, ◌%◌, ◌<◌}
use native.Mathlib.Nat.{mul_assoc, mul_comm}
use native.Mathlib.Omega.{arith}
use lib.ListN.{length, get_or, set, take, drop, replicate}
use Rattle.grids.specs.Each.{Each, Grid, none, more}
use Rattle.grids.specs.Rows.{rows_of, flat, row_at}
use Rattle.grids.proofs.Rows.{rows_of-flat}
use Rattle.pictures.specs.Numbers.{two_bytes, low_byte, high_byte, pairs, numbers_in}

-- The i-th number takes the bytes from 2 * i on.
two-more : (i : ℕ) → 2 * suc i ≡ suc (suc (2 * i))
two-more i = omega arith

two-after : (i : ℕ) → 2 * suc i + 1 ≡ suc (suc (2 * i + 1))
two-after i = omega arith

-- A number of its bytes.
pub two_bytes_lem : (v : ℕ) → two_bytes (low_byte v) (high_byte v) ≡ v
two_bytes_lem v = omega arith

-- The numbers of their bytes, and the bytes of their numbers.
pub numbers-pairs : (ys : List ℕ) → numbers_in (pairs ys) ≡ ys
numbers-pairs [] = refl
numbers-pairs (v ∷ ys) = ap₂ ◌∷◌ (two_bytes_lem v) (numbers-pairs ys)

pub pairs-numbers : (n : ℕ) (b : List ℕ) → Each (λ x. x < 256) (2 * n) b → pairs (numbers_in b) ≡ b
pairs-numbers n b e = go n (2 * n) b refl e
  where
    go : (n k : ℕ) (b : List ℕ) → k ≡ 2 * n → Each (λ x. x < 256) k b → pairs (numbers_in b) ≡ b
    go n k b i none = refl
    go n k b i (more p none) = absurd (omega arith)
    go n k b i (more {x = x} p (more {n = m} {x = y} {xs = r} q e)) =
        let low : (x + 256 * y) % 256 ≡ x = omega arith in
        let high : (x + 256 * y) / 256 ≡ y = omega arith in
        let fewer : m ≡ 2 * (n - 1) = omega arith in
        ap₂ ◌∷◌ low (ap₂ ◌∷◌ high (go (n - 1) m r fewer e))

-- How many.
pub length_pairs : (ys : List ℕ) → length (pairs ys) ≡ 2 * length ys
length_pairs [] = refl
length_pairs (v ∷ ys) = omega (arith, length_pairs ys)

pub length-numbers : (b : List ℕ) → length (numbers_in b) ≡ length b / 2
length-numbers [] = refl
length-numbers (a ∷ []) = refl
length-numbers (a ∷ c ∷ r) = omega (arith, length-numbers r)

-- The i-th number.
pub numbers_at : (b : List ℕ) (i : ℕ) → 2 * i + 1 < length b → get_or (numbers_in b) i 0 ≡ two_bytes (get_or b (2 * i) 0) (get_or b (2 * i + 1) 0)
numbers_at [] i h = absurd (omega arith)
numbers_at (a ∷ []) i h = absurd (omega arith)
numbers_at (a ∷ c ∷ r) zero h = refl
numbers_at (a ∷ c ∷ r) (suc i) h = rw (two-after i, two-more i) (numbers_at r i (omega arith))

-- Two bytes put in put in their number.
pub numbers-set : (b : List ℕ) (i p q : ℕ) → numbers_in (set (set b (2 * i) p) (2 * i + 1) q) ≡ set (numbers_in b) i (two_bytes p q)
numbers-set [] i p q = refl
numbers-set (a ∷ []) zero p q = refl
numbers-set (a ∷ []) (suc i) p q = rw (two-after i, two-more i) refl
numbers-set (a ∷ c ∷ r) zero p q = refl
numbers-set (a ∷ c ∷ r) (suc i) p q = rw (two-after i, two-more i) (ap (two_bytes a c ∷◌) (numbers-set r i p q))

-- Lists of numbers joined, and parts of them.
pub numbers_append : (n : ℕ) (x y : List ℕ) → length x ≡ 2 * n → numbers_in (x ++ y) ≡ numbers_in x ++ numbers_in y
numbers_append n [] y h = refl
numbers_append zero (a ∷ r) y h = absurd (omega arith)
numbers_append (suc n) (a ∷ []) y h = absurd (omega arith)
numbers_append (suc n) (a ∷ c ∷ r) y h = ap (two_bytes a c ∷◌) (numbers_append n r y (omega arith))

pub pairs-append : (xs ys : List ℕ) → pairs (xs ++ ys) ≡ pairs xs ++ pairs ys
pairs-append [] ys = refl
pairs-append (v ∷ xs) ys = ap (λ r. low_byte v ∷ high_byte v ∷ r) (pairs-append xs ys)

pub numbers-take : (n : ℕ) (b : List ℕ) → numbers_in (take (2 * n) b) ≡ take n (numbers_in b)
numbers-take zero b = refl
numbers-take (suc n) [] = rw (two-more n) refl
numbers-take (suc n) (a ∷ []) = rw (two-more n) refl
numbers-take (suc n) (a ∷ c ∷ r) = rw (two-more n) (ap (two_bytes a c ∷◌) (numbers-take n r))

pub numbers-drop : (n : ℕ) (b : List ℕ) → numbers_in (drop (2 * n) b) ≡ drop n (numbers_in b)
numbers-drop zero b = refl
numbers-drop (suc n) [] = rw (two-more n) refl
numbers-drop (suc n) (a ∷ []) = rw (two-more n) refl
numbers-drop (suc n) (a ∷ c ∷ r) = rw (two-more n) (numbers-drop n r)

-- Numbers that are all 0.
pub pairs-zeros : {A : Type 0} (x : List A) → pairs (map (λ a. 0) x) ≡ replicate (2 * length x) 0
pairs-zeros [] = refl
pairs-zeros (a ∷ x) = rw (two-more (length x)) (ap (λ r. 0 ∷ 0 ∷ r) (pairs-zeros x))

-- Rows of w numbers: joined, each as long, row r, and all of them read back.
pub pairs-flat : (m : List (List ℕ)) → pairs (flat m) ≡ flat (map pairs m)
pairs-flat [] = refl
pairs-flat (y ∷ m) = pairs-append y (flat m) ∙ ap (pairs y ++◌) (pairs-flat m)

pub grid-pairs : {w h : ℕ} {m : List (List ℕ)} → Grid w h m → Grid (2 * w) h (map pairs m)
grid-pairs none = none
grid-pairs {w} (more {x = y} e g) = more (length_pairs y ∙ ap (2 *◌) e) (grid-pairs g)

pub numbers-row : (w r : ℕ) (b : List ℕ) → numbers_in (row_at (2 * w) r b) ≡ row_at w r (numbers_in b)
numbers-row w r b =
    let e : r * (2 * w) ≡ 2 * (r * w) = sym (mul_assoc r 2 w) ∙ ap (◌* w) (mul_comm r 2) ∙ mul_assoc 2 r w in
    numbers-take w (drop (r * (2 * w)) b) ∙ ap (λ n. take w (numbers_in (drop n b))) e ∙ ap (take w) (numbers-drop (r * w) b)

pub rows-pairs : {w h : ℕ} {m : List (List ℕ)} → Grid w h m → rows_of w h (numbers_in (pairs (flat m))) ≡ m
rows-pairs {w} {h} {m} g = ap (rows_of w h) (numbers-pairs (flat m) ∙ sym (append-nil (flat m))) ∙ rows_of-flat [] g
