-- The header of a Netpbm picture: its kind by two numbers, and how it is read at the front of a text.
use mathlib.Core.Path.{◌≡◌, refl, sym, ◌∙◌}
use mathlib.Core.Bool.{Bool, true, false}
use mathlib.Core.Option.{Option, none, some}
use mathlib.Core.List.{List}
use Prim.Native.Nat.{ℕ, ◌≤◌, ◌<◌}
use native.Mathlib.Omega.{arith}
use lib.ListN.{length, get_or, drop}
use lib.Dec.{eqb}
use borrow.Author.Tests.{eqb-true, eqb-false, ne_eqb}
use Rattle.pictures.specs.declared.sizes.Kind.TheVariants.{Grey, Rgb}
use Rattle.pictures.specs.Numbers.{largest_number}
use Rattle.text_theory.specs.Readers.{Get, give, on, ◌▷◌, strip, onward, after, known}
use Rattle.text_theory.specs.Decimal.{number_get}
use Rattle.text_theory.specs.Files.{line_end}
use Rattle.text_read.specs.Answers.{Told}
use Rattle.text_read.proofs.Letters.{letter_end, letter-other, letter_one}
use Rattle.text_read.proofs.Onward.{Left, left_start, left-past, left_no_past}
use Rattle.program_theory.specs.Netpbm.{letter_p, kind_by}
use Rattle.program_netpbm.specs.Headers.{last_number}

-- The kind by its two numbers.
pub kind_none : (p m : ℕ) → (m ≡ 255 → ⊥) → none ≡ kind_by p m
unfolding kind_by
kind_none p m n = rw (ne_eqb m 255 n)

pub kind_grey : (p m : ℕ) → m ≡ 255 → p ≡ 5 → some Grey ≡ kind_by p m
unfolding kind_by
kind_grey p m e f = rw (e, f)

pub kind_rgb : (p m : ℕ) → m ≡ 255 → p ≡ 6 → some Rgb ≡ kind_by p m
unfolding kind_by
kind_rgb p m e f = rw (e, f)

pub kind_other : (p m : ℕ) → (p ≡ 5 → ⊥) → (p ≡ 6 → ⊥) → m ≡ 255 → none ≡ kind_by p m
unfolding kind_by
kind_other p m f g e = rw (e, ne_eqb p 5 f, ne_eqb p 6 g)

-- The letter at the front of a text.
some-text : (text : List ℕ) {empty : Bool} → empty ≡ eqb (length text) 0 → empty ≡ false → 0 < length text
some-text text e f = omega (arith, eqb-false (length text) 0 (sym e ∙ f))

module _ {B : Type 0} (g : Get B) {text : List ℕ} {empty : Bool} (e : empty ≡ eqb (length text) 0) where
  pub no_text : empty ≡ true → Told (after letter_p g) text 0 none
  unfolding letter_p
  no_text t = left_no_past letter_p g left_start (letter_end 80 (omega (arith, eqb-true (length text) 0 (sym e ∙ t))))

  module _ (f : empty ≡ false) where
    pub no_letter : (get_or text 0 0 ≡ 80 → ⊥) → Told (after letter_p g) text 0 none
    unfolding letter_p
    no_letter n = left_no_past letter_p g left_start (letter-other 80 (some-text text e f) (λ h. n (sym h)))

    pub left_letter : get_or text 0 0 ≡ 80 → Left (after letter_p g) text 0 g 1
    unfolding letter_p
    left_letter h = left-past letter_p left_start (letter_one 80 (some-text text e f) (sym h))

-- The last number of a line, and the line end after it, before what is left to read.
last_step : {B : Type 0} (f : ℕ → Get B) (s : List ℕ) → (number_get largest_number ▷ λ n. after line_end (f n)) s ≡ (last_number ▷ f) s
unfolding last_number
last_step f s = go (number_get largest_number s)
  where
    end : (n : ℕ) (o : Option (List ℕ)) → onward o (f n) ≡ on (onward o (give n)) f
    end n none = refl
    end n (some t) = refl

    go : (o : Option (ℕ × List ℕ)) → on o (λ n. after line_end (f n)) ≡ on (on o (λ n. after line_end (give n))) f
    go none = refl
    go (some r) = end r.0 (strip line_end r.1)

module _ {B : Type 0} {whole : Get B} {text : List ℕ} {from : ℕ} where
  pub left_last : (f : ℕ → Get B) {at n c : ℕ} → Left whole text from (number_get largest_number ▷ λ n. after line_end (f n)) at → Told last_number text at (some (n, c)) → Left whole text from (f n) c
  left_last f {at} L t = record { same = L.same ∙ last_step f (drop at text) ∙ rw t.same; there = omega (arith, L.there, t.moved.0) }

  pub left_no_last : (f : ℕ → Get B) {at : ℕ} → Left whole text from (number_get largest_number ▷ λ n. after line_end (f n)) at → Told last_number text at none → Told whole text from none
  left_no_last f {at} L t = record { same = L.same ∙ last_step f (drop at text) ∙ rw t.same; moved = tt }

  -- A value that is known, or isn't.
  module _ {A : Type 0} (f : A → Get B) (o : Option A) {at : ℕ} (L : Left whole text from (known o ▷ f) at) where
    pub left-known : {a : A} → some a ≡ o → Left whole text from (f a) at
    left-known e = record { same = L.same ∙ rw (← e); there = L.there }

    pub left-unknown : none ≡ o → Told whole text from none
    left-unknown e = record { same = L.same ∙ rw (← e); moved = tt }

  -- What is given at the place c, after the last reading.
  pub left-give : {b : B} {at c : ℕ} → Left whole text from (give b) c → from ≤ at → (at < c) × (c ≤ length text) → Told whole text from (some (b, c))
  left-give L h m = record { same = L.same; moved = (omega (arith, m.0), m.1) }
