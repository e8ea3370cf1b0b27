-- Laws of numbers of four bytes: read, put in, and how many.
use mathlib.Core.Path.{◌≡◌, refl, ap}
use mathlib.Core.List.{List, [], ◌∷◌, ◌++◌}
use Prim.Native.Nat.{ℕ, zero, suc, ◌+◌, ◌*◌, ◌/◌, ◌%◌, ◌<◌}
use native.Mathlib.Omega.{arith}
use lib.ListN.{length, get_or, set, take}
use Rattle.seam_find_kept.specs.Inner.Kept.{four_bytes, words_in}

-- The i-th number takes the bytes from 4 * i on.
four-more : (i : ℕ) → 4 * suc i ≡ suc (suc (suc (suc (4 * i))))
four-more i = omega arith

four_after-1 : (i : ℕ) → 4 * suc i + 1 ≡ suc (suc (suc (suc (4 * i + 1))))
four_after-1 i = omega arith

four_after-2 : (i : ℕ) → 4 * suc i + 2 ≡ suc (suc (suc (suc (4 * i + 2))))
four_after-2 i = omega arith

four_after-3 : (i : ℕ) → 4 * suc i + 3 ≡ suc (suc (suc (suc (4 * i + 3))))
four_after-3 i = omega arith

-- The number of its bytes.
pub four_of : (v : ℕ) → four_bytes (v % 256) (v / 256 % 256) (v / 256 / 256 % 256) (v / 256 / 256 / 256) ≡ v
four_of v = omega arith

pub length-words : (b : List ℕ) → length (words_in b) ≡ length b / 4
length-words [] = refl
length-words (a ∷ []) = refl
length-words (a ∷ b ∷ []) = refl
length-words (a ∷ b ∷ c ∷ []) = refl
length-words (a ∷ b ∷ c ∷ d ∷ r) = omega (arith, length-words r)

pub words_at : (b : List ℕ) (i : ℕ) → 4 * i + 3 < length b
    → get_or (words_in b) i 0 ≡ four_bytes (get_or b (4 * i) 0) (get_or b (4 * i + 1) 0) (get_or b (4 * i + 2) 0) (get_or b (4 * i + 3) 0)
words_at [] i h = absurd (omega arith)
words_at (a ∷ []) i h = absurd (omega arith)
words_at (a ∷ b ∷ []) i h = absurd (omega arith)
words_at (a ∷ b ∷ c ∷ []) i h = absurd (omega arith)
words_at (a ∷ b ∷ c ∷ d ∷ r) zero h = refl
words_at (a ∷ b ∷ c ∷ d ∷ r) (suc i) h = rw (four_after-3 i, four_after-2 i, four_after-1 i, four-more i) (words_at r i (omega arith))

-- Four bytes put in put in their number.
pub words-set : (b : List ℕ) (i p q s t : ℕ) → 4 * i + 3 < length b
    → words_in (set (set (set (set b (4 * i) p) (4 * i + 1) q) (4 * i + 2) s) (4 * i + 3) t) ≡ set (words_in b) i (four_bytes p q s t)
words-set [] i p q s t h = absurd (omega arith)
words-set (a ∷ []) i p q s t h = absurd (omega arith)
words-set (a ∷ b ∷ []) i p q s t h = absurd (omega arith)
words-set (a ∷ b ∷ c ∷ []) i p q s t h = absurd (omega arith)
words-set (a ∷ b ∷ c ∷ d ∷ r) zero p q s t h = refl
words-set (a ∷ b ∷ c ∷ d ∷ r) (suc i) p q s t h =
    rw (four_after-3 i, four_after-2 i, four_after-1 i, four-more i) (ap (four_bytes a b c d ∷◌) (words-set r i p q s t (omega arith)))

-- The numbers of the first bytes, where a number ends with them,
pub words-take : (n : ℕ) (b : List ℕ) → words_in (take (4 * n) b) ≡ take n (words_in b)
words-take zero b = refl
words-take (suc n) b = rw (four-more n) (go b (words-take n))
  where
    go : (b : List ℕ) → ((r : List ℕ) → words_in (take (4 * n) r) ≡ take n (words_in r))
        → words_in (take (suc (suc (suc (suc (4 * n))))) b) ≡ take (suc n) (words_in b)
    go [] h = refl
    go (a ∷ []) h = refl
    go (a ∷ b ∷ []) h = refl
    go (a ∷ b ∷ c ∷ []) h = refl
    go (a ∷ b ∷ c ∷ d ∷ r) h = ap (four_bytes a b c d ∷◌) (h r)

-- and of further bytes after them.
pub words_append : (n : ℕ) (x y : List ℕ) → length x ≡ 4 * n → words_in (x ++ y) ≡ words_in x ++ words_in y
words_append n [] y h = refl
words_append zero (a ∷ r) y h = absurd (omega arith)
words_append (suc n) (a ∷ []) y h = absurd (omega arith)
words_append (suc n) (a ∷ b ∷ []) y h = absurd (omega arith)
words_append (suc n) (a ∷ b ∷ c ∷ []) y h = absurd (omega arith)
words_append (suc n) (a ∷ b ∷ c ∷ d ∷ r) y h = ap (four_bytes a b c d ∷◌) (words_append n r y (omega arith))
