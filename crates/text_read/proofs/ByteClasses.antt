-- The class of a byte, and the bytes of a class.
use mathlib.Core.Path.{◌≡◌, refl, sym, ap, ◌∙◌}
use mathlib.Core.Bool.{Bool, true, false, cond, and-false}
use mathlib.Core.Logic.{◌⊎◌, inl, inr}
use mathlib.Core.Option.{Option, none, some}
use mathlib.Core.List.{List, [], ◌∷◌}
use Prim.Native.Nat.{ℕ, ◌+◌, ◌-◌, ◌≤◌, ◌<◌}
use native.Mathlib.Omega.{arith}
use lib.Dec.{leb, eqb}
use lib.ListN.{length, get_or, drop, drop_of_length-le}
use borrow.Author.Tests.{le-leb, lt-leb, leb-true, eq-eqb, ne_eqb, eqb-true, eqb-false}
use Rattle.std.proofs.lemmas.List.{drop_more}
use Rattle.grids.proofs.Bools.{both}
use Rattle.text_theory.specs.Readers.{Get, give, onward, strip}
use Rattle.text_theory.specs.Decimal.{is_digit}
use Rattle.text_theory.specs.Files.{opening, closing, blank, line_end}
use Rattle.text_theory.proofs.Decimals.{is_digit_lem, digit_true}
use Rattle.text_read.specs.declared.cursor.Class.{Class}
use Rattle.text_read.specs.declared.cursor.Class.TheVariants.{Digit, Letter, Opening, Closing, Blank, LineEnd, Other}
use Rattle.text_read.specs.Answers.{Told, is_letter, class_of, class_number, of_class}
use Rattle.text_read.specs.Inner.{passing}
use Rattle.text_read.proofs.DigitSteps.{no_digit}

pub class_digit : (b d : ℕ) → 48 ≤ b → b < 58 → d ≡ b - 48 → Digit d ≡ class_of b
unfolding class_of
class_digit b d l u e = rw (is_digit_lem b l (omega arith), e)

pub class_letter : (b : ℕ) → 97 ≤ b → b < 123 → Letter b ≡ class_of b
unfolding class_of is_letter
class_letter b l u = rw (no_digit b (inr (omega arith)), le-leb 97 b l, le-leb b 122 (omega arith))

no_letter : (b : ℕ) → (b < 97) ⊎ (123 ≤ b) → is_letter b ≡ false
unfolding is_letter
no_letter b (inl h) = rw (lt-leb 97 b h)
no_letter b (inr h) = rw (lt-leb b 122 h) (and-false (leb 97 b))

pub class_other : (b : ℕ) → (b < 48) ⊎ (58 ≤ b) → (b < 97) ⊎ (123 ≤ b) → (b ≡ 40 → ⊥) → (b ≡ 41 → ⊥) → (b ≡ 32 → ⊥) → (b ≡ 10 → ⊥) → Other ≡ class_of b
unfolding class_of
class_other b d l p q r s = rw (no_digit b d, no_letter b l, ne_eqb b 40 p, ne_eqb b 41 q, ne_eqb b 32 r, ne_eqb b 10 s)

-- What the class says of the byte.
abbrev says : ℕ → Class → Type 0
says b (Digit d) = (is_digit b ≡ true) × (d ≡ b - 48)
says b (Letter l) = (is_letter b ≡ true) × (l ≡ b)
says b Opening = b ≡ 40
says b Closing = b ≡ 41
says b Blank = b ≡ 32
says b LineEnd = b ≡ 10
says b Other = Unit

class_says : (b : ℕ) → says b (class_of b)
unfolding class_of
class_says b = go (is_digit b) (is_letter b) (eqb b 40) (eqb b 41) (eqb b 32) (eqb b 10) refl refl refl refl refl refl
  where
    go : (d l o c s e : Bool) → is_digit b ≡ d → is_letter b ≡ l → eqb b 40 ≡ o → eqb b 41 ≡ c → eqb b 32 ≡ s → eqb b 10 ≡ e
        → says b (cond d (Digit (b - 48)) (cond l (Letter b) (cond o Opening (cond c Closing (cond s Blank (cond e LineEnd Other))))))
    go true l o c s e p q r t u v = (p, refl)
    go false true o c s e p q r t u v = (q, refl)
    go false false true c s e p q r t u v = eqb-true b 40 r
    go false false false true s e p q r t u v = eqb-true b 41 t
    go false false false false true e p q r t u v = eqb-true b 32 u
    go false false false false false true p q r t u v = eqb-true b 10 v
    go false false false false false false p q r t u v = tt

-- A class that a match found: what it says.
found : {x y : Class} (b : ℕ) → x ≡ y → x ≡ class_of b → class_of b ≡ y
found b e f = sym f ∙ e

pub digit_found : {x : Class} {d : ℕ} (b : ℕ) → x ≡ Digit d → x ≡ class_of b → is_digit b ≡ true
digit_found b e f = (rw (found b e f) at (class_says b)).0

pub letter_byte : {x : Class} {l : ℕ} (b : ℕ) → x ≡ Letter l → x ≡ class_of b → (is_letter b ≡ true) × (l ≡ b)
letter_byte b e f = rw (found b e f) at (class_says b)

-- A letter is no digit.
pub letter_digit : (b : ℕ) → is_letter b ≡ true → is_digit b ≡ false
unfolding is_letter
letter_digit b h = no_digit b (inr (omega (arith, leb-true 97 b (both (leb 97 b) (leb b 122) h).0)))

pub digit_letter : (b : ℕ) → is_digit b ≡ true → is_letter b ≡ false
digit_letter b h = no_letter b (inl (omega (arith, (digit_true b h).1)))

pub closing_byte : {x : Class} {b : ℕ} → x ≡ Closing → x ≡ class_of b → b ≡ 41
closing_byte {b = b} e f = rw (found b e f) at (class_says b)

pub blank_byte : {x : Class} {b : ℕ} → x ≡ Blank → x ≡ class_of b → b ≡ 32
blank_byte {b = b} e f = rw (found b e f) at (class_says b)

-- The readers' default arms: the class is none of those that the arms before take.
module _ {x : Class} (b : ℕ) (f : x ≡ class_of b) where
  pub arm_no_digit : ((d : ℕ) → x ≡ Digit d → ⊥) → is_digit b ≡ false
  unfolding class_of
  arm_no_digit n = go (is_digit b) refl
    where
      go : (d : Bool) → is_digit b ≡ d → is_digit b ≡ false
      go true h = absurd (n (b - 48) (f ∙ rw h))
      go false h = h

  pub arm_no_letter : ((l : ℕ) → x ≡ Letter l → ⊥) → is_letter b ≡ false
  unfolding class_of
  arm_no_letter n = go (is_letter b) refl
    where
      go : (l : Bool) → is_letter b ≡ l → is_letter b ≡ false
      go true h = absurd (n b (f ∙ rw (letter_digit b h, h)))
      go false h = h

  pub arm_no_opening : (x ≡ Opening → ⊥) → b ≡ 40 → ⊥
  unfolding class_of is_digit is_letter
  arm_no_opening n e = n (f ∙ ap class_of e)

  pub arm_no_closing : (x ≡ Closing → ⊥) → b ≡ 41 → ⊥
  unfolding class_of is_digit is_letter
  arm_no_closing n e = n (f ∙ ap class_of e)

  pub arm_no_blank : (x ≡ Blank → ⊥) → b ≡ 32 → ⊥
  unfolding class_of is_digit is_letter
  arm_no_blank n e = n (f ∙ ap class_of e)

-- The classes of one byte, by their numbers: the brackets, the blank and the line end.
abbrev byte_of : ℕ → ℕ
byte_of n = get_or (0 ∷ 0 ∷ 40 ∷ 41 ∷ 32 ∷ 10 ∷ []) n 0

says_byte : (b : ℕ) (x : Class) → says b x → 2 ≤ class_number x → class_number x ≤ 5 → b ≡ byte_of (class_number x)
says_byte b (Digit d) s l m = absurd (omega arith)
says_byte b (Letter c) s l m = absurd (omega arith)
says_byte b Opening s l m = s
says_byte b Closing s l m = s
says_byte b Blank s l m = s
says_byte b LineEnd s l m = s
says_byte b Other s l m = absurd (omega arith)

of_class_lem : (k : Class) → 2 ≤ class_number k → class_number k ≤ 5 → class_number (class_of (byte_of (class_number k))) ≡ class_number k
    → (s : List ℕ) → of_class k s ≡ passing (byte_of (class_number k) ∷ []) s
unfolding of_class strip
of_class_lem k l m e [] = refl
of_class_lem k l m e (b ∷ s) = go (eqb w b) refl
  where
    w : ℕ
    w = byte_of (class_number k)

    only : class_number (class_of b) ≡ class_number k → b ≡ w
    only f = says_byte b (class_of b) (class_says b) (omega (arith, f)) (omega (arith, f)) ∙ ap byte_of f

    go : (t : Bool) → eqb w b ≡ t → cond (eqb (class_number (class_of b)) (class_number k)) (some (0, s)) none ≡ onward {A = ℕ} (cond t (some s) none) (give 0)
    go true h = rw (eq-eqb (class_number (class_of b)) (class_number k) (ap (λ (x : ℕ). class_number (class_of x)) (sym (eqb-true w b h)) ∙ e))
    go false h = rw (ne_eqb (class_number (class_of b)) (class_number k) (λ f. eqb-false w b h (sym (only f))))

-- A reader that reads alike is told alike.
pub told_as : {A : Type 0} {g k : Get A} {text : List ℕ} {at : ℕ} {found : Option (A × ℕ)} → ((s : List ℕ) → g s ≡ k s) → Told g text at found → Told k text at found
told_as {text = text} {at} e t = record { same = sym (e (drop at text)) ∙ t.same; moved = t.moved }

module _ {text : List ℕ} {at : ℕ} {found : Option (ℕ × ℕ)} where
  pub told_opening : Told (of_class Opening) text at found → Told (passing opening) text at found
  unfolding opening class_of is_digit is_letter
  told_opening = told_as (of_class_lem Opening (omega arith) (omega arith) refl)

  pub told_closing : Told (of_class Closing) text at found → Told (passing closing) text at found
  unfolding closing class_of is_digit is_letter
  told_closing = told_as (of_class_lem Closing (omega arith) (omega arith) refl)

  pub told_blank : Told (of_class Blank) text at found → Told (passing blank) text at found
  unfolding blank class_of is_digit is_letter
  told_blank = told_as (of_class_lem Blank (omega arith) (omega arith) refl)

  pub told_line_end : Told (of_class LineEnd) text at found → Told (passing line_end) text at found
  unfolding line_end class_of is_digit is_letter
  told_line_end = told_as (of_class_lem LineEnd (omega arith) (omega arith) refl)

-- The method `past`, in the code's terms.
module _ (k : Class) {text : List ℕ} {at : ℕ} where
  pub past_end : length text ≤ at → Told (of_class k) text at none
  unfolding of_class
  past_end h = record { same = rw (drop_of_length-le text h); moved = tt }

  module _ (h : at < length text) where
    pub past-other : (class_number (class_of (get_or text at 0)) ≡ class_number k → ⊥) → Told (of_class k) text at none
    unfolding of_class
    past-other n = record { same = rw (drop_more text at 0 h, ne_eqb (class_number (class_of (get_or text at 0))) (class_number k) n); moved = tt }

    pub past_one : class_number (class_of (get_or text at 0)) ≡ class_number k → Told (of_class k) text at (some (0, at + 1))
    unfolding of_class
    past_one e = record { same = rw (drop_more text at 0 h, eq-eqb (class_number (class_of (get_or text at 0))) (class_number k) e); moved = (omega arith, omega arith) }
