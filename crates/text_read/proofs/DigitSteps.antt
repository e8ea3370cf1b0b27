-- The readers at a place of a text, one step at a time, in the code's terms.
use mathlib.Core.Path.{◌≡◌, refl, ap, ◌∙◌}
use mathlib.Core.Bool.{Bool, true, false, cond, and-false}
use mathlib.Core.Logic.{◌⊎◌, inl, inr}
use mathlib.Core.Option.{none, some}
use mathlib.Core.List.{List, [], ◌∷◌}
use Prim.Native.Nat.{ℕ, ◌+◌, ◌-◌, ◌*◌, ◌≤◌, ◌<◌}
use native.Mathlib.Omega.{arith}
use lib.Dec.{leb, ltb}
use lib.ListN.{length, get_or, drop, drop_of_length-le}
use lib.Seq.{take-length}
use Rattle.std.proofs.Common.{add_assoc}
use Rattle.std.specs.Prelude as code
use Rattle.std.specs.Prelude.{slice_range}
use Rattle.grids.proofs.Orders.{le-or-lt}
use Rattle.std.proofs.lemmas.List.{length-drop, get_or-drop, drop_more}
use borrow.Author.Tests.{le-leb, lt-leb, le-ltb, ltb-true, ltb-false}
use Rattle.pictures.specs.Numbers.{largest_number}
use Rattle.text_theory.specs.Decimal.{is_digit, further, up_to, number_get}
use Rattle.text_read.specs.Answers.{Told}
use Rattle.text_read.specs.Inner.{DigitOf, DigitAt, Reading, within}
use Rattle.text_theory.proofs.Decimals.{is_digit_lem, digit_true, number_digit}

pub no_digit : (b : ℕ) → (b < 48) ⊎ (58 ≤ b) → is_digit b ≡ false
unfolding is_digit
no_digit b (inl h) = rw (lt-leb 48 b h)
no_digit b (inr h) = rw (lt-leb b 57 h) (and-false (leb 48 b))

-- What follows a place, in the code's terms.
abbrev pub rest : List ℕ → ℕ → List ℕ
rest text at = slice_range text at (length text)

pub rest_of : (text : List ℕ) (at : ℕ) → rest text at ≡ drop at text
rest_of text at = let l : length (drop at text) ≡ length text - at = length-drop at text in rw (← l) (take-length (drop at text))

rest-length : (text : List ℕ) (at : ℕ) → length (rest text at) ≡ length text - at
rest-length text at = ap length (rest_of text at) ∙ length-drop at text

further-more : (s : List ℕ) (n : ℕ) → n ≤ (further n s).0
unfolding further
further-more [] n = omega arith
further-more (b ∷ s) n = go (is_digit b) (further-more s (n * 10 + (b - 48)))
  where
    go : (x : Bool) → n * 10 + (b - 48) ≤ (further (n * 10 + (b - 48)) s).0 → n ≤ (cond x (further (n * 10 + (b - 48)) s) (n, b ∷ s)).0
    go true h = omega arith
    go false h = omega arith

-- The byte of a digit, and its value.
pub record DigitByte (b d : ℕ) : Type 0 where
  pub least : 48 ≤ b
  pub most : b ≤ 57
  pub value : d ≡ b - 48

pub digit_is : {b d : ℕ} → DigitOf b (code.Some d) → DigitByte b d
digit_is {b} h = let t = digit_true b h.0 in record { least = t.0; most = t.1; value = h.1 }

digit_small : (text : List ℕ) (at d : ℕ) → DigitAt text at (code.Some d) → d ≤ 9
digit_small text at d h = let k = digit_is h.1 in omega (arith, k.most, k.value)

module _ (limit : ℕ) {text : List ℕ} {start : ℕ} where
  pub number-end : length text ≤ start → Told (number_get limit) text start none
  unfolding number_get
  number-end h = record { same = rw (drop_of_length-le text h); moved = tt }

  pub number-none : start < length text → is_digit (get_or text start 0) ≡ false → Told (number_get limit) text start none
  unfolding number_get
  number-none h d = record { same = rw (drop_more text start 0 h, d); moved = tt }

  -- No digit stands there.
  pub number_missing : DigitAt text start code.None → Told (number_get limit) text start none
  number_missing h = elim (le-or-lt (length text) start) [ inl l ↦ number-end l | inr l ↦ number-none l (h l) ]

  number_48 : start < length text → get_or text start 0 ≡ 48 → Told (number_get limit) text start (some (0, start + 1))
  unfolding number_get is_digit
  number_48 h e = record { same = rw (drop_more text start 0 h, e); moved = (omega arith, omega arith) }

  -- A 0 stands alone.
  pub number_zero : {d : ℕ} → DigitAt text start (code.Some d) → d ≡ 0 → Told (number_get limit) text start (some (0, start + 1))
  number_zero k z = let b = digit_is k.1 in number_48 k.0 (omega (arith, b.least, b.value, z))

module _ {limit : ℕ} {text : List ℕ} {start : ℕ} where
  pub reading_first : {d : ℕ} → DigitAt text start (code.Some d) → (d ≡ 0 → ⊥) → Reading limit text start d (start + 1)
  reading_first k z = let h = k.0 in let b = digit_is k.1 in record {
    same = rw (drop_more text start 0 h, b.value) (number_digit limit (get_or text start 0) (drop (start + 1) text) (is_digit_lem (get_or text start 0) b.least b.most) (omega (arith, b.least, b.value, z)));
    there = omega arith;
    inside = omega arith;
    small = omega (arith, b.most, b.value);
  }

  module _ {n at : ℕ} (R : Reading limit text start n at) where
    pub reading-over : limit < n → Told (number_get limit) text start none
    unfolding up_to
    reading-over h =
        let l = further-more (drop at text) n in
        record { same = R.same ∙ rw (lt-leb (further n (drop at text)).0 limit (omega arith)); moved = tt }

    pub reading_more : {d next : ℕ} → limit ≤ largest_number → n ≤ limit → next ≡ at + 1 → DigitAt text at (code.Some d) → Reading limit text start (n * 10 + d) next
    unfolding further
    reading_more {d} {next} m l e h =
        let b = digit_is h.1 in
        record {
          same = R.same ∙ rw (drop_more text at 0 h.0, h.1.0, b.value, e);
          there = omega (arith, R.there, e);
          inside = omega (arith, h.0, e);
          small = omega (arith, b.most, b.value, l, m);
        }

    stopped : further n (drop at text) ≡ (n, drop at text) → Told (number_get limit) text start (within limit n at)
    unfolding up_to
    stopped e = go (ltb limit n) refl
      where
        go : (x : Bool) → ltb limit n ≡ x → Told (number_get limit) text start (cond x none (some (n, at)))
        go true f = record { same = R.same ∙ rw (e, lt-leb n limit (ltb-true limit n f)); moved = tt }
        go false f = record { same = R.same ∙ rw (e, le-leb n limit (ltb-false limit n f)); moved = (R.there, R.inside) }

    reading-none : at < length text → is_digit (get_or text at 0) ≡ false → Told (number_get limit) text start (within limit n at)
    unfolding further
    reading-none h d = stopped (rw (drop_more text at 0 h, d))

    reading-end : length text ≤ at → Told (number_get limit) text start (within limit n at)
    unfolding further
    reading-end h = stopped (rw (drop_of_length-le text h))

    pub reading_stop : DigitAt text at code.None → Told (number_get limit) text start (within limit n at)
    reading_stop h = elim (le-or-lt (length text) at) [ inl l ↦ reading-end l | inr l ↦ reading-none l (h l) ]

    -- The number ends there, and isn't too large.
    pub reading_done : n ≤ limit → DigitAt text at code.None → Told (number_get limit) text start (some (n, at))
    reading_done l h = rw (le-ltb limit n l) at (reading_stop h)

-- A number that begins with up to three digits, read one by one.
module _ {text : List ℕ} {start a : ℕ} (A : DigitAt text start (code.Some a)) (z : a ≡ 0 → ⊥) where
  pub one_digit : DigitAt text (start + 1) code.None → Told (number_get largest_number) text start (some (a, start + 1))
  one_digit = reading_done (reading_first A z) (omega (arith, digit_small text start a A))

  module _ {b : ℕ} (B : DigitAt text (start + 1) (code.Some b)) where
    two-read : Reading largest_number text start (a * 10 + b) (start + 2)
    two-read = reading_more (reading_first A z) (omega arith) (omega (arith, digit_small text start a A)) (omega arith) B

    pub two_digits : DigitAt text (start + 2) code.None → Told (number_get largest_number) text start (some (a * 10 + b, start + 2))
    two_digits = reading_done two-read (omega (arith, digit_small text start a A, digit_small text (start + 1) b B))

    module _ {c : ℕ} (C : DigitAt text (start + 2) (code.Some c)) where
      pub three-read : Reading largest_number text start ((a * 10 + b) * 10 + c) (start + 3)
      three-read = reading_more two-read (omega arith) (omega (arith, digit_small text start a A, digit_small text (start + 1) b B)) (omega arith) C

      pub three_digits : DigitAt text (start + 3) code.None → Told (number_get largest_number) text start (some ((a * 10 + b) * 10 + c, start + 3))
      three_digits = reading_done three-read (omega (arith, digit_small text start a A, digit_small text (start + 1) b B, digit_small text (start + 2) c C))

-- The loop has come to byte i of those from k on, or has passed them all.
module _ {limit : ℕ} {text : List ℕ} {start n : ℕ} (k i : ℕ) (R : Reading limit text start n (k + i)) where
  module _ (h : i < length (rest text k)) where
    there : k + i < length text
    there = omega (arith, rest-length text k)

    byte : get_or (rest text k) i 0 ≡ get_or text (k + i) 0
    byte = ap (λ (s : List ℕ). get_or s i 0) (rest_of text k) ∙ get_or-drop k text i 0

    pub further_digit : {d : ℕ} → limit ≤ largest_number → n ≤ limit → DigitByte (get_or (rest text k) i 0) d → Reading limit text start (n * 10 + d) (k + (i + 1))
    unfolding further
    further_digit m l b = record {
      same = R.same ∙ rw (drop_more text (k + i) 0 there, ← byte, is_digit_lem (get_or (rest text k) i 0) b.least b.most, b.value, add_assoc k i 1);
      there = omega (arith, R.there);
      inside = omega (arith, there);
      small = omega (arith, b.most, b.value);
    }

    pub further_stop : is_digit (get_or (rest text k) i 0) ≡ false → Told (number_get limit) text start (within limit n (k + i))
    further_stop d = reading-none R there (rw byte at d)

  pub further_end : k ≤ length text → length (rest text k) ≤ i → Told (number_get limit) text start (within limit n (length text))
  further_end m h =
      let e : k + i ≡ length text = omega (arith, R.inside, rest-length text k) in
      rw (← e) (reading-end R (omega arith))
