-- Words at a place of a text: which byte they begin with, and what they are.
use mathlib.Core.Path.{◌≡◌, refl, sym, ap, ◌∙◌}
use mathlib.Core.Bool.{Bool, true, false, cond}
use mathlib.Core.Option.{Option, none, some, none-ne-some, some-injective}
use mathlib.Core.List.{List, [], ◌∷◌}
use Prim.Native.Nat.{ℕ, ◌+◌, ◌-◌, ◌≤◌, ◌<◌}
use native.Mathlib.Numerals.{add-one}
use native.Mathlib.Omega.{arith}
use lib.Dec.{leb, ltb, eqb}
use lib.ListN.{length, get_or, drop, drop_of_length-le}
use lib.Seq.{drop-cons}
use borrow.Author.Tests.{leb-true, leb-false, le-ltb, lt-ltb, eq-eqb, ne_eqb}
use Rattle.std.specs.Prelude as code
use Rattle.std.proofs.lemmas.List.{drop_more}
use Rattle.pictures.specs.Numbers.{largest_number}
use Rattle.text_theory.specs.declared.Name.{Name}
use Rattle.text_theory.specs.declared.Name.TheVariants as names
use Rattle.text_theory.specs.Readers.{give, on, strip, after, either}
use Rattle.text_theory.specs.Decimal.{is_digit, further, up_to, number_get}
use Rattle.text_theory.specs.Words.{name_text, name_number, all_names, name_at, one_of, name_get, named, called, called_get}
use Rattle.text_theory.proofs.Names.{name_sound, number_same}
use Rattle.text_read.specs.declared.cursor.Cursor.{Cursor}
use Rattle.text_read.specs.declared.words.Word.{Word}
use Rattle.text_read.specs.declared.words.Word.TheVariants as words
use Rattle.text_read.specs.Answers.{Told, is_letter, read, word}
use Rattle.text_read.specs.Inner.{passing}
use Rattle.text_read.proofs.ByteClasses.{digit_letter}
use Rattle.text_read.proofs.Letters.{no_letter_first}
use Rattle.text_read.proofs.Onward.{passing-some, passing-none}

-- A name begins with a small letter.
name_nil : name_get [] ≡ none
unfolding name_get one_of strip
name_nil = refl

name_other : (b : ℕ) (s : List ℕ) → is_letter b ≡ false → name_get (b ∷ s) ≡ none
name_other b s h = go (name_get (b ∷ s)) refl
  where
    go : (o : Option (Name × List ℕ)) → name_get (b ∷ s) ≡ o → name_get (b ∷ s) ≡ none
    go none e = e
    go (some r) e = absurd (no_letter_first r.0 b r.1 s h (name_sound (b ∷ s) r e))

number-nil : (limit : ℕ) → number_get limit [] ≡ none
unfolding number_get
number-nil limit = refl

number-other : (limit b : ℕ) (s : List ℕ) → is_digit b ≡ false → number_get limit (b ∷ s) ≡ none
unfolding number_get
number-other limit b s h = rw h

name_digit : (b : ℕ) (s : List ℕ) → is_digit b ≡ true → name_get (b ∷ s) ≡ none
name_digit b s h = name_other b s (digit_letter b h)

-- What is a number is no name.
number_name : (s : List ℕ) (r : ℕ × List ℕ) → number_get largest_number s ≡ some r → name_get s ≡ none
number_name [] r h = name_nil
number_name (b ∷ s) r h = go (is_digit b) refl
  where
    go : (x : Bool) → is_digit b ≡ x → name_get (b ∷ s) ≡ none
    go true e = name_digit b s e
    go false e = absurd (none-ne-some _ (sym (number-other largest_number b s e) ∙ h))

-- A smaller limit.
number_limit : (limit : ℕ) → limit ≤ largest_number → (s : List ℕ) → number_get limit s ≡ on (number_get largest_number s) (λ n. cond (ltb limit n) (λ t. none) (give n))
unfolding number_get up_to
number_limit limit l [] = refl
number_limit limit l (b ∷ s) = go (is_digit b) (eqb b 48)
  where
    last : (r : ℕ × List ℕ) (x y : Bool) → leb r.0 limit ≡ x → leb r.0 largest_number ≡ y
        → cond x (some r) none ≡ on (cond y (some r) none) (λ n. cond (ltb limit n) (λ t. none) (give n))
    last r true true e f = rw (le-ltb limit r.0 (leb-true r.0 limit e))
    last r true false e f = absurd (omega (arith, l, leb-true r.0 limit e, leb-false r.0 largest_number f))
    last r false true e f = rw (lt-ltb limit r.0 (leb-false r.0 limit e))
    last r false false e f = refl

    go : (x y : Bool) → cond x (cond y (some (0, s)) (cond (leb (further (b - 48) s).0 limit) (some (further (b - 48) s)) none)) none
        ≡ on (cond x (cond y (some (0, s)) (cond (leb (further (b - 48) s).0 largest_number) (some (further (b - 48) s)) none)) none) (λ n. cond (ltb limit n) (λ t. none) (give n))
    go true true = rw (le-ltb limit 0 (omega arith))
    go true false = last (further (b - 48) s) _ _ refl refl
    go false y = refl

-- What a word is: what it is as a number and as a name.
abbrev either-word : Option (ℕ × List ℕ) → Option (Name × List ℕ) → Option (Word × List ℕ)
either-word o k = either (on o (λ n. give (words.Number n))) (on k (λ k. give (words.Name k)))

abbrev tag : Word → ℕ
tag (words.Number n) = 0
tag (words.Name k) = 1

abbrev number_in : Word → ℕ
number_in (words.Number n) = n
number_in (words.Name k) = 0

abbrev name_in : Word → Name
name_in (words.Number n) = names.Multi
name_in (words.Name k) = k

same_tag : (v w : Word) (s t : List ℕ) → ◌≡◌ {A = Option (Word × List ℕ)} (some (v, s)) (some (w, t)) → tag v ≡ tag w
same_tag v w s t h = ap (λ (r : Word × List ℕ). tag r.0) (some-injective (v, s) (w, t) h)

module _ (s : List ℕ) where
  word_numeral : (n : ℕ) (t : List ℕ) → word s ≡ some (words.Number n, t) → number_get largest_number s ≡ some (n, t)
  unfolding word
  word_numeral n t h = go (number_get largest_number s) (name_get s) h
    where
      go : (o : Option (ℕ × List ℕ)) (k : Option (Name × List ℕ)) → either-word o k ≡ some (words.Number n, t) → o ≡ some (n, t)
      go none none h = absurd (none-ne-some _ h)
      go none (some q) h = absurd (let z = same_tag (words.Name q.0) (words.Number n) q.1 t h in omega arith)
      go (some r) k h = ap (λ (q : Word × List ℕ). some (number_in q.0, q.1)) (some-injective (words.Number r.0, r.1) (words.Number n, t) h)

  word_name : (k : Name) (t : List ℕ) → word s ≡ some (words.Name k, t) → (number_get largest_number s ≡ none) × (name_get s ≡ some (k, t))
  unfolding word
  word_name k t h = go (number_get largest_number s) (name_get s) h
    where
      go : (o : Option (ℕ × List ℕ)) (p : Option (Name × List ℕ)) → either-word o p ≡ some (words.Name k, t) → (o ≡ none) × (p ≡ some (k, t))
      go none none h = absurd (none-ne-some _ h)
      go none (some q) h = (refl, ap (λ (q : Word × List ℕ). some (name_in q.0, q.1)) (some-injective (words.Name q.0, q.1) (words.Name k, t) h))
      go (some r) p h = absurd (let z = same_tag (words.Number r.0) (words.Name k) r.1 t h in omega arith)

  word_none : word s ≡ none → (number_get largest_number s ≡ none) × (name_get s ≡ none)
  unfolding word
  word_none h = go (number_get largest_number s) (name_get s) h
    where
      go : (o : Option (ℕ × List ℕ)) (k : Option (Name × List ℕ)) → either-word o k ≡ none → (o ≡ none) × (k ≡ none)
      go none none h = (refl, refl)
      go none (some q) h = absurd (none-ne-some _ (sym h))
      go (some r) k h = absurd (none-ne-some _ (sym h))

module _ {text : List ℕ} {at : ℕ} where
  pub told_word-end : length text ≤ at → Told word text at none
  unfolding word
  told_word-end h = record { same = rw (drop_of_length-le text h, number-nil, name_nil); moved = tt }

  pub told_word_number : {n c : ℕ} → Told (number_get largest_number) text at (some (n, c)) → Told word text at (some (words.Number n, c))
  unfolding word
  told_word_number t = record { same = rw t.same; moved = t.moved }

  module _ (h : at < length text) where
    pub told-word-no-number : is_digit (get_or text at 0) ≡ true → Told (number_get largest_number) text at none → Told word text at none
    unfolding word
    told-word-no-number d t = record { same = rw (t.same, drop_more text at 0 h, name_digit (get_or text at 0) (drop (at + 1) text) d); moved = tt }

    pub told-word-name : {k : Name} {c : ℕ} → is_digit (get_or text at 0) ≡ false → Told name_get text at (some (k, c)) → Told word text at (some (words.Name k, c))
    unfolding word
    told-word-name d t =
        let n = number-other largest_number (get_or text at 0) (drop (at + 1) text) d in
        record { same = rw (t.same, drop_more text at 0 h, n); moved = t.moved }

    pub told-word-no-name : is_digit (get_or text at 0) ≡ false → Told name_get text at none → Told word text at none
    unfolding word
    told-word-no-name d t =
        let n = number-other largest_number (get_or text at 0) (drop (at + 1) text) d in
        record { same = rw (t.same, drop_more text at 0 h, n); moved = tt }

    pub told-word-other : is_digit (get_or text at 0) ≡ false → is_letter (get_or text at 0) ≡ false → Told word text at none
    told-word-other d l = told-word-no-name d (record { same = rw (drop_more text at 0 h, name_other (get_or text at 0) (drop (at + 1) text) l); moved = tt })

  -- A number up to the largest is over the limit or not.
  module _ (limit : ℕ) (l : limit ≤ largest_number) where
    pub limited_number : {n c : ℕ} → Told (number_get largest_number) text at (some (n, c)) → n ≤ limit → Told (number_get limit) text at (some (n, c))
    limited_number {n} t h = record { same = rw (number_limit limit l (drop at text), t.same, le-ltb limit n h); moved = t.moved }

    pub limited-over : {n c : ℕ} → Told (number_get largest_number) text at (some (n, c)) → limit < n → Told (number_get limit) text at none
    limited-over {n} t h = record { same = rw (number_limit limit l (drop at text), t.same, lt-ltb limit n h); moved = tt }

    pub limited_none : Told (number_get largest_number) text at none → Told (number_get limit) text at none
    limited_none t = record { same = rw (number_limit limit l (drop at text), t.same); moved = tt }

  pub told_name : {k : Name} {c : ℕ} → Told word text at (some (words.Name k, c)) → Told name_get text at (some (k, c))
  told_name {k} {c} t = record { same = (word_name (drop at text) k (drop c text) t.same).1; moved = t.moved }

  -- The arm of all words that are no names, that of none, and that of all answers that are no names.
  pub told_other_word : (w : Word) {c : ℕ} → ((k : Name) → w ≡ words.Name k → ⊥) → Told word text at (some (w, c)) → Told name_get text at none
  told_other_word (words.Number n) {c} h t = record { same = number_name (drop at text) _ (word_numeral (drop at text) n (drop c text) t.same); moved = tt }
  told_other_word (words.Name n) h t = absurd (h n refl)

  pub told_no_word : Told word text at none → Told name_get text at none
  told_no_word t = record { same = (word_none (drop at text) t.same).1; moved = tt }

  pub told_no_name : (w : code.Option (Word × Cursor)) → ((k : Name) (c : Cursor) → w ≡ code.Some (words.Name k, c) → ⊥) → Told word text at (read w) → Told name_get text at none
  told_no_name (code.Some r) h t = told_other_word r.0 (λ k e. h k r.1 (ap (λ (w : Word). code.Some (w, r.1)) e)) t
  told_no_name code.None h t = told_no_word t

-- A value by its name: one that the name is called by, or none.
module _ {A : Type 0} (f : A → Name) (xs : List A) {text : List ℕ} {at : ℕ} where
  pub told_called : {n : Name} {a : A} {c : ℕ} → Told name_get text at (some (n, c)) → called f xs n ≡ some a → Told (called_get f xs) text at (some (a, c))
  told_called t e = record { same = rw (t.same, e); moved = t.moved }

  pub told_not_called : {n : Name} {c : ℕ} → Told name_get text at (some (n, c)) → called f xs n ≡ none → Told (called_get f xs) text at none
  told_not_called t e = record { same = rw (t.same, e); moved = tt }

  pub told_unnamed : Told name_get text at none → Told (called_get f xs) text at none
  told_unnamed t = record { same = rw t.same; moved = tt }

-- One name alone.
module _ (n : Name) {text : List ℕ} {at : ℕ} where
  pub told_not-named : Told name_get text at none → Told (named n) text at none
  unfolding named
  told_not-named t = record { same = rw t.same; moved = tt }

  module _ {m : Name} {c : ℕ} (t : Told name_get text at (some (m, c))) where
    pub told_named : m ≡ n → Told (named n) text at (some (0, c))
    unfolding named
    told_named h = record { same = rw (t.same, eq-eqb (name_number m) (name_number n) (ap name_number h)); moved = t.moved }

    pub told-other-name : (m ≡ n → ⊥) → Told (named n) text at none
    unfolding named
    told-other-name h = record { same = rw (t.same, ne_eqb (name_number m) (name_number n) (λ g. h (number_same n m g))); moved = tt }

-- The state of the loop over the names: none of the first i stands here.
pub record Naming (text : List ℕ) (at i : ℕ) : Type 0 where
  pub same : name_get (drop at text) ≡ one_of (drop i all_names) (drop at text)

module _ {text : List ℕ} {at : ℕ} where
  pub naming_first : Naming text at 0
  unfolding name_get
  naming_first = record { same = refl }

  module _ {i : ℕ} (N : Naming text at i) where
    this : i < length all_names → one_of (drop i all_names) (drop at text) ≡ either (after (name_text (name_at i)) (give (name_at i)) (drop at text)) (one_of (drop (i + 1) all_names) (drop at text))
    unfolding one_of
    this h = rw (add-one i, drop-cons all_names i names.Multi h)

    pub naming-next : i < length all_names → {n : Name} → n ≡ name_at i → Told (passing (name_text n)) text at none → Naming text at (i + 1)
    naming-next h {n} e t = record { same = N.same ∙ this h ∙ rw (passing-none (name_text (name_at i)) (drop at text) (rw e at t.same)) }

    pub naming-found : i < length all_names → {n : Name} {v c : ℕ} → n ≡ name_at i → Told (passing (name_text n)) text at (some (v, c)) → Told name_get text at (some (n, c))
    naming-found h {n} {v} {c} e t = record { same = N.same ∙ this h ∙ rw (passing-some (name_text (name_at i)) (drop at text) v (drop c text) (rw e at t.same), e); moved = t.moved }

    pub naming-end : length all_names ≤ i → Told name_get text at none
    unfolding one_of
    naming-end h = record { same = N.same ∙ rw (drop_of_length-le all_names h); moved = tt }
