-- Numbers one after the other, whatever stands between them, and the loop that writes them.
use mathlib.Core.Path.{◌≡◌, refl, sym, ap, ◌∙◌}
use mathlib.Core.Bool.{Bool, true, false, not, cond}
use mathlib.Core.Option.{Option, none, some, none-ne-some, some-injective}
use mathlib.Core.List.{List, [], ◌∷◌, ◌++◌, append-nil, map}
use Rattle.std.specs.Prelude as code
use Rattle.std.specs.Prelude.{nat_lt}
use Rattle.std.specs.List.{position, position_or_len}
use Rattle.std.proofs.lemmas.List.{drop_more, drop-drop, map-append}
use borrow.Author.Tests.{ltb-false}
use Prim.Native.Nat.{ℕ, zero, suc, ◌+◌, ◌≤◌, ◌<◌}
use native.Mathlib.Numerals.{add-one}
use native.Mathlib.Omega.{arith}
use lib.Dec.{eqb}
use lib.ListN.{length, get_or, take, drop, set, drop_of_length-le}
use lib.Seq.{take-suc-set, take_all, append_snoc}
use Rattle.pictures.specs.Numbers.{largest_number}
use Rattle.text_theory.specs.Decimal.{is_digit, number_get}
use Rattle.text_read.specs.Answers.{ahead, Told}
use Rattle.text_read.specs.Inner.{skipped, figure, figures, Coming, beyond, after_line, Numbered}
use Rattle.text_read.proofs.DigitSteps.{rest, rest_of}

skip_gap : (b : ℕ) (s : List ℕ) → is_digit b ≡ false → skipped (b ∷ s) ≡ skipped s
unfolding skipped
skip_gap b s h = rw h

skip_digit : (b : ℕ) (s : List ℕ) → is_digit b ≡ true → skipped (b ∷ s) ≡ b ∷ s
unfolding skipped
skip_digit b s h = rw h

pub figure_gap : (b : ℕ) (s : List ℕ) → is_digit b ≡ false → figure (b ∷ s) ≡ figure s
unfolding figure
figure_gap b s h = rw (skip_gap b s h)

-- Where a number stands, nothing is skipped.
pub figure-here : (s : List ℕ) (r : ℕ × List ℕ) → number_get largest_number s ≡ some r → figure s ≡ some r
unfolding figure number_get
figure-here [] r h = absurd (none-ne-some _ h)
figure-here (b ∷ s) r h = go (is_digit b) refl h
  where
    go : (x : Bool) → is_digit b ≡ x → number_get largest_number (b ∷ s) ≡ some r → number_get largest_number (skipped (b ∷ s)) ≡ some r
    go true e h = rw (skip_digit b s e) h
    go false e h = absurd (none-ne-some _ (rw e at h))

-- The state of the loop that passes over what stands before a number.
pub record Skipping (text : List ℕ) (from at : ℕ) : Type 0 where
  pub same : figure (drop from text) ≡ figure (drop at text)
  pub there : from ≤ at

pub skipping_first : (text : List ℕ) (from : ℕ) → Skipping text from from
skipping_first text from = record { same = refl; there = omega arith }

module _ {text : List ℕ} {from at : ℕ} (S : Skipping text from at) where
  pub skipping_end : length text ≤ at → Told figure text from none
  unfolding figure number_get skipped
  skipping_end h = record { same = S.same ∙ rw (drop_of_length-le text h); moved = tt }

  module _ (h : at < length text) where
    pub skipping_more : is_digit (get_or text at 0) ≡ false → Skipping text from (at + 1)
    skipping_more d = record { same = S.same ∙ rw (drop_more text at 0 h) (figure_gap (get_or text at 0) (drop (at + 1) text) d); there = omega (arith, S.there) }

    pub skipping_digit : is_digit (get_or text at 0) ≡ true → {found : Option (ℕ × ℕ)} → Told (number_get largest_number) text at found → Told figure text from found
    unfolding figure
    skipping_digit d {found} t = record { same = S.same ∙ here ∙ t.same; moved = further found t.moved }
      where
        here : figure (drop at text) ≡ number_get largest_number (drop at text)
        here = rw (drop_more text at 0 h, skip_digit (get_or text at 0) (drop (at + 1) text) d)

        further : (r : Option (ℕ × ℕ)) → ahead (length text) at r → ahead (length text) from r
        further none m = tt
        further (some q) m = (omega (arith, m.0, S.there), m.1)

-- The place of the first line end.
line_by : (s : List ℕ) → after_line s ≡ drop (position_or_len (λ b. eqb b 10) s + 1) s
unfolding after_line
line_by [] = refl
line_by (b ∷ s) = go (eqb b 10) (line_by s)
  where
    go : (x : Bool) → after_line s ≡ drop (position_or_len (λ b. eqb b 10) s + 1) s
        → cond x s (after_line s) ≡ drop (cond (not x) (1 + position_or_len (λ b. eqb b 10) s) 0 + 1) (b ∷ s)
    go true k = refl
    go false k = k ∙ sym (ap (λ i. drop i (b ∷ s)) unary)
      where
        unary : 1 + position_or_len (λ b. eqb b 10) s + 1 ≡ suc (position_or_len (λ b. eqb b 10) s + 1)
        unary = omega arith

-- What follows the next line end, by its place in s, which is what follows a place.
module _ (text : List ℕ) (at : ℕ) where
  pub after_past : length text < at → drop at text ≡ after_line (drop at text)
  unfolding after_line
  after_past h = rw (drop_of_length-le text {i = at} (omega arith))

  module _ {s : List ℕ} (e : s ≡ rest text at) where
    pub after_none : code.None ≡ position (λ b. eqb b 10) s → drop (length text) text ≡ after_line (drop at text)
    after_none h = go (nat_lt (position_or_len (λ b. eqb b 10) (drop at text)) (length (drop at text))) refl (rw (e, rest_of text at) at h)
      where
        go : (x : Bool) → nat_lt (position_or_len (λ b. eqb b 10) (drop at text)) (length (drop at text)) ≡ x
            → code.None ≡ cond x (code.Some (position_or_len (λ b. eqb b 10) (drop at text))) code.None → drop (length text) text ≡ after_line (drop at text)
        go true f h = absurd cc
        go false f h =
            let l = ltb-false (position_or_len (λ b. eqb b 10) (drop at text)) (length (drop at text)) f in
            drop_of_length-le text {i = length text} (omega arith) ∙ sym (line_by (drop at text) ∙ drop_of_length-le (drop at text) {i = position_or_len (λ b. eqb b 10) (drop at text) + 1} (omega (arith, l)))

    pub after_at : {i : ℕ} → code.Some i ≡ position (λ b. eqb b 10) s → drop (at + i + 1) text ≡ after_line (drop at text)
    after_at {i} h =
        let z : i ≡ position_or_len (λ b. eqb b 10) (drop at text) =
        is (nat_lt (position_or_len (λ b. eqb b 10) (drop at text)) (length (drop at text))) (rw (e, rest_of text at) at h) in
        let one : at + i + 1 ≡ at + (i + 1) = omega arith in
        sym (line_by (drop at text) ∙ rw (← z, drop-drop (i + 1) at text, one) refl)
      where
        is : (x : Bool) → code.Some i ≡ cond x (code.Some (position_or_len (λ b. eqb b 10) (drop at text))) code.None → i ≡ position_or_len (λ b. eqb b 10) (drop at text)
        is true h = cc
        is false h = absurd cc

-- The state of a loop that reads n numbers: i of them were read, and the others are to come.
pub record Filling (limit n : ℕ) (text : List ℕ) (from i at : ℕ) (read : List ℕ) : Type 0 where
  pub left : ℕ
  pub sum : i + left ≡ n
  pub coming : Coming limit left (drop at text)
  pub all : figures n (drop from text) ≡ read ++ figures left (drop at text)
  pub after : beyond n (drop from text) ≡ beyond left (drop at text)

-- Where all of them come.
abbrev pub FillingIf : ℕ → ℕ → List ℕ → ℕ → ℕ → ℕ → List ℕ → Type 0
FillingIf limit n text from i at read = Coming limit n (drop from text) → Filling limit n text from i at read

module _ {limit n : ℕ} {text : List ℕ} {from : ℕ} where
  pub filling_first : FillingIf limit n text from 0 from []
  filling_first k = record { left = n; sum = omega arith; coming = k; all = refl; after = refl }

  module _ {i at : ℕ} {read : List ℕ} (F : Filling limit n text from i at read) where
    pub filling_none : i < n → Told figure text at none → ⊥
    filling_none l t = go F.left F.sum F.coming
      where
        go : (m : ℕ) → i + m ≡ n → Coming limit m (drop at text) → ⊥
        go zero e k = omega arith
        go (suc m) e k = none-ne-some _ (sym t.same ∙ k.1)

    module _ (l : i < n) {v c : ℕ} (t : Told figure text at (some (v, c))) where
      same-pair : (r : ℕ × List ℕ) → figure (drop at text) ≡ some r → r ≡ (v, drop c text)
      same-pair r e = some-injective r (v, drop c text) (sym e ∙ t.same)

      pub filling_small : v ≤ limit
      filling_small = go F.left F.sum F.coming
        where
          go : (m : ℕ) → i + m ≡ n → Coming limit m (drop at text) → v ≤ limit
          go zero e k = absurd (omega arith)
          go (suc m) e k = rw (same-pair k.0 k.1) at k.2

      pub filling_next : Filling limit n text from (i + 1) c (read ++ v ∷ [])
      unfolding figures beyond
      filling_next = go F.left F.sum F.coming F.all F.after
        where
          go : (m : ℕ) → i + m ≡ n → Coming limit m (drop at text) → figures n (drop from text) ≡ read ++ figures m (drop at text) → beyond n (drop from text) ≡ beyond m (drop at text)
              → Filling limit n text from (i + 1) c (read ++ v ∷ [])
          go zero e k a b = absurd (omega arith)
          go (suc m) e k a b = record {
            left = m;
            sum = omega arith;
            coming = rw (same-pair k.0 k.1) at k.3;
            all = a ∙ rw t.same (sym (append_snoc read v (figures m (drop c text))));
            after = b ∙ rw t.same refl;
          }

    pub filling_done : n ≤ i → (read ≡ figures n (drop from text)) × (beyond n (drop from text) ≡ drop at text)
    unfolding figures beyond
    filling_done h = go F.left F.sum F.all F.after
      where
        go : (m : ℕ) → i + m ≡ n → figures n (drop from text) ≡ read ++ figures m (drop at text) → beyond n (drop from text) ≡ beyond m (drop at text)
            → (read ≡ figures n (drop from text)) × (beyond n (drop from text) ≡ drop at text)
        go zero e a b = (sym (a ∙ append-nil read), b)
        go (suc m) e a b = absurd (omega arith)

-- The numbers kept as values: a turn of the loop, and its two ends.
module _ {T : Type 0} (value : T → ℕ) {limit n : ℕ} {text : List ℕ} {from i at : ℕ} (out : List T) (I : FillingIf limit n text from i at (map value (take i out))) where
  pub kept_turn : i < n → n ≡ length out → {v c : ℕ} → Told figure text at (some (v, c)) → (x : T) → (v ≤ limit → value x ≡ v) → FillingIf limit n text from (i + 1) c (map value (take (i + 1) (set out i x)))
  kept_turn l e {v} {c} t x is k =
      let F = I k in
      let inside : i < length out = omega (arith, l, e) in
      let now : map value (take (i + 1) (set out i x)) ≡ map value (take i out) ++ (v ∷ []) = rw (add-one, take-suc-set, map-append, is (filling_small F l t)) refl in
      rw now (filling_next F l t)

  pub kept_none : i < n → Told figure text at none → (next : ℕ) (out' : List T) → Numbered limit n text from next (map value out')
  kept_none l t next out' = record { numbers = λ k. absurd (filling_none (I k) l t); place = λ k. absurd (filling_none (I k) l t) }

  pub kept_done : n ≤ i → n ≡ length out → {next : ℕ} → drop next text ≡ after_line (drop at text) → Numbered limit n text from next (map value out)
  kept_done l e p =
      let w : take i out ≡ out = take_all i out (omega (arith, e)) in
      record {
        numbers = λ k. sym (ap (map value) w) ∙ (filling_done (I k) l).0;
        place = λ k. p ∙ sym (ap after_line (filling_done (I k) l).1);
      }
