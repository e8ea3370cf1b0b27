-- The letters of a name at a place of a text.
use mathlib.Core.Path.{◌≡◌, refl, sym, ap, ◌∙◌}
use mathlib.Core.Bool.{true, false, false≢true}
use mathlib.Core.Option.{none, some}
use mathlib.Core.List.{List, [], ◌∷◌, ◌++◌}
use Prim.Native.Nat.{ℕ, ◌+◌, ◌≤◌, ◌<◌}
use native.Mathlib.Omega.{arith}
use lib.Dec.{ltb}
use lib.ListN.{length, get_or, drop, drop_of_length-le, get_or-append}
use borrow.Author.Tests.{ltb-true, eq-eqb, ne_eqb}
use Rattle.std.proofs.lemmas.List.{drop_more}
use Rattle.text_theory.specs.declared.Name.{Name}
use Rattle.text_theory.specs.Readers.{give, after, strip}
use Rattle.text_theory.specs.Words.{name_text}
use Rattle.text_theory.proofs.Names.{every, every_at, each_name}
use Rattle.text_read.specs.Answers.{Told, is_letter}
use Rattle.text_read.specs.Inner.{passing}
use Rattle.text_read.proofs.Onward.{Left, left-past, left_no_past, left_as, after-append}

-- A name's letters are small letters.
pub name_letters : (n : Name) (i : ℕ) → i < length (name_text n) → is_letter (get_or (name_text n) i 0) ≡ true
unfolding is_letter
name_letters n i h = every_at is_letter (name_text n) (each_name (λ m. every is_letter (name_text m)) refl n) i 0 h

-- A byte that is no letter is none of a name's.
no_letter_other : (n : Name) (i b : ℕ) → i < length (name_text n) → is_letter b ≡ false → b ≡ get_or (name_text n) i 0 → ⊥
no_letter_other n i b h k e = false≢true (sym k ∙ ap is_letter e ∙ name_letters n i h)

-- Nor does it begin one.
pub name_some : (n : Name) → 0 < length (name_text n)
name_some n = ltb-true 0 (length (name_text n)) (each_name (λ m. ltb 0 (length (name_text m))) refl n)

pub no_letter_first : (n : Name) (b : ℕ) (t s : List ℕ) → is_letter b ≡ false → b ∷ s ≡ name_text n ++ t → ⊥
no_letter_first n b t s h e =
    let z : b ≡ get_or (name_text n) 0 0 = ap (λ (w : List ℕ). get_or w 0 0) e ∙ get_or-append (name_text n) t 0 0 (name_some n) in
    no_letter_other n 0 b (name_some n) h z

-- One letter at a place, in the code's terms.
module _ (l : ℕ) {text : List ℕ} {at : ℕ} where
  pub letter_end : length text ≤ at → Told (passing (l ∷ [])) text at none
  unfolding strip
  letter_end h = record { same = rw (drop_of_length-le text h); moved = tt }

  module _ (h : at < length text) where
    pub letter-other : (l ≡ get_or text at 0 → ⊥) → Told (passing (l ∷ [])) text at none
    unfolding strip
    letter-other n = record { same = rw (drop_more text at 0 h, ne_eqb l (get_or text at 0) n); moved = tt }

    pub letter_one : l ≡ get_or text at 0 → Told (passing (l ∷ [])) text at (some (0, at + 1))
    unfolding strip
    letter_one e = record { same = rw (drop_more text at 0 h, eq-eqb l (get_or text at 0) e); moved = (omega arith, omega arith) }

-- The state of the loop over the letters of a name: i of them were passed, and the others are left.
pub record Spelling (w text : List ℕ) (from i at : ℕ) : Type 0 where
  pub left : Left (passing w) text from (passing (drop i w)) at
  pub far : from + i ≤ at
  pub inside : 0 < i → at ≤ length text

module _ {w text : List ℕ} {from : ℕ} where
  module _ {i at : ℕ} (S : Spelling w text from i at) where
    module _ (h : i < length w) where
      -- The letter that comes next, and those after it.
      next : Left (passing w) text from (after (get_or w i 0 ∷ []) (passing (drop (i + 1) w))) at
      next = left_as (λ s. rw (drop_more w i 0 h) (after-append (get_or w i 0 ∷ []) (drop (i + 1) w) (give 0) s)) S.left

      pub spelling_next : {c : ℕ} → Told (passing (get_or w i 0 ∷ [])) text at (some (0, c)) → Spelling w text from (i + 1) c
      spelling_next t = record { left = left-past (get_or w i 0 ∷ []) next t; far = omega (arith, S.far, t.moved.0); inside = λ h. t.moved.1 }

      pub spelling_broken : Told (passing (get_or w i 0 ∷ [])) text at none → Told (passing w) text from none
      spelling_broken = left_no_past (get_or w i 0 ∷ []) (passing (drop (i + 1) w)) next

    pub spelling_end : i ≡ length w → 0 < length w → Told (passing w) text from (some (0, at))
    unfolding strip
    spelling_end e h = record { same = S.left.same ∙ rw (drop_of_length-le w {i = i} (omega (arith, e))); moved = (omega (arith, S.far), S.inside (omega arith)) }
