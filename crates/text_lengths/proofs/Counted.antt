-- How long samples are, each after a blank: counted by those that have a second and a third digit.
use mathlib.Core.Path.{◌≡◌, refl}
use mathlib.Core.Logic.{⊎_elim}
use mathlib.Core.Bool.{Bool, true, false, cond}
use mathlib.Core.List.{List, [], ◌∷◌, ◌++◌}
use Prim.Native.Nat.{ℕ, zero, suc, ◌+◌, ◌*◌, ◌/◌, ◌≤◌, ◌<◌}
use native.Mathlib.Omega.{arith}
use lib.Dec.{leb}
use mir.Val.{bool_byte}
use lib.ListN.{length, get_or, take, drop, length-append}
use lib.Seq.{drop-cons}
use native.Mathlib.Numerals.{add-one}
use borrow.Author.Tests.{le-leb, lt-leb}
use Rattle.grids.specs.Rows.{rows_of}
use Rattle.grids.proofs.Orders.{le-or-lt}
use Rattle.pictures.specs.Pictures.{pixel_bytes}
use Rattle.pictures.proofs.Samples.{AreBytes, row-in-plain}
use Rattle.text_theory.specs.Decimal.{digits}
use Rattle.text_theory.specs.Files.{blank, opening, closing, each, joined, pixel_text}
use Rattle.text_theory.proofs.Decimals.{digits_small, digits-large}
use Rattle.pictures.specs.declared.sizes.Kind.TheVariants.{Rgb}
use Rattle.text_lengths.specs.Inner.{further_digits}
use Rattle.text_lengths.specs.Rooms.{pixels_of}

-- A test as a number.
pub byte_is : (t : Bool) → bool_byte t ≡ cond t 1 0
byte_is true = refl
byte_is false = refl

pub one_most : (t : Bool) → bool_byte t ≤ 1
one_most true = omega arith
one_most false = omega arith

-- One sample more.
pub further_next : (b : List ℕ) (i z : ℕ) → i < length b
    → further_digits (drop i b) ≡ cond (leb 10 (get_or b i z)) 1 0 + cond (leb 100 (get_or b i z)) 1 0 + further_digits (drop (i + 1) b)
further_next b i z h = rw (add-one, drop-cons b i z h) refl

-- A part, and what comes after it; and how many there may be.
pub further_parts : (a b : List ℕ) → further_digits (a ++ b) ≡ further_digits a + further_digits b
further_parts [] b = omega arith
further_parts (x ∷ a) b = omega (arith, further_parts a b)

pub further_most : (b : List ℕ) → further_digits b ≤ 2 * length b
further_most [] = omega arith
further_most (x ∷ b) = omega (arith, further_most b, one_most (leb 10 x), one_most (leb 100 x), byte_is (leb 10 x), byte_is (leb 100 x))

-- How many digits a sample has.
digits_most : (x : ℕ) → x ≤ 255 → length (digits x) ≡ 1 + (cond (leb 10 x) 1 0 + cond (leb 100 x) 1 0)
digits_most x h =
    ⊎_elim
    (λ (a : 10 ≤ x).
    ⊎_elim
    (λ (b : 100 ≤ x).
    rw (digits-large x a, digits-large (x / 10) (omega (arith, b)), digits_small (x / 10 / 10) (omega (arith, h)), le-leb 10 x a, le-leb 100 x b) refl)
    (λ (b : x < 100). rw (digits-large x a, digits_small (x / 10) (omega (arith, b)), le-leb 10 x a, lt-leb 100 x b) refl)
    (le-or-lt 100 x))
    (λ (a : x < 10). rw (digits_small x a, lt-leb 10 x a, lt-leb 100 x (omega (arith, a))) refl)
    (le-or-lt 10 x)

-- Samples, each after a blank.
pub samples-length : (xs : List ℕ) → AreBytes xs → length (each blank digits xs) ≡ 2 * length xs + further_digits xs
unfolding each blank
samples-length [] h = refl
samples-length (x ∷ xs) h = simp length-append (omega (arith, digits_most x (h 0), samples-length xs (λ i. h (suc i))))

-- Pixels of three samples, each after a blank: two brackets more each.
three-more : (n : ℕ) → 3 * suc n ≡ suc (suc (suc (3 * n)))
three-more n = omega arith

pixels-length : (n : ℕ) (b : List ℕ) → 3 * n ≤ length b
    → length (each blank (pixel_text Rgb) (rows_of 3 n b)) ≡ 2 * n + length (each blank digits (take (3 * n) b))
unfolding each blank pixel_text joined opening closing
pixels-length zero b h = refl
pixels-length (suc n) [] h = absurd (omega arith)
pixels-length (suc n) (x ∷ []) h = absurd (omega arith)
pixels-length (suc n) (x ∷ y ∷ []) h = absurd (omega arith)
pixels-length (suc n) (x ∷ y ∷ z ∷ b) h = rw (three-more n) (simp length-append (omega (arith, pixels-length n b (omega (arith, h)))))

-- The same of all whole pixels of a row's samples.
pub row_pixels-length : (b : List ℕ) → length (each blank (pixel_text Rgb) (pixels_of Rgb b)) ≡ 2 * (length b / 3) + length (each blank digits (take (3 * (length b / 3)) b))
unfolding pixel_bytes
row_pixels-length b = rw (row-in-plain Rgb (length b / 3) b) (pixels-length (length b / 3) b (omega arith))
