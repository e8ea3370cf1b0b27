-- Reading on: what is left to read at a place, of a reader that began earlier.
use mathlib.Core.Path.{◌≡◌, refl, sym, ap, ◌∙◌}
use mathlib.Core.Bool.{Bool, true, false, cond}
use mathlib.Core.Option.{Option, none, some, none-ne-some, some-injective}
use mathlib.Core.List.{List, [], ◌∷◌, ◌++◌}
use Rattle.std.specs.Prelude as code
use Rattle.std.specs.Bool.{then_some}
use Prim.Native.Nat.{ℕ, ◌≤◌, ◌<◌}
use native.Mathlib.Omega.{arith}
use lib.Dec.{eqb}
use lib.ListN.{length, drop}
use Rattle.pictures.specs.Numbers.{largest_number}
use Rattle.text_theory.specs.declared.Name.{Name}
use Rattle.text_theory.specs.declared.Name.TheVariants as name
use Rattle.text_theory.specs.Readers.{Get, give, on, ◌▷◌, strip, onward, after}
use Rattle.text_theory.specs.Decimal.{number_get}
use Rattle.text_theory.specs.Words.{name_text, named}
use Rattle.text_theory.specs.Files.{opening, closing, blank, line_end, closed, begun, first_text}
use Rattle.text_theory.proofs.Names.{named_is}
use Rattle.text_read.specs.declared.cursor.Cursor.{Cursor}
use Rattle.text_read.specs.Answers.{Told, read, passed, beginning}
use Rattle.text_read.specs.Inner.{passing}
use Rattle.text_read.proofs.ByteClasses.{told_as}

pub passing-some : (w s : List ℕ) (v : ℕ) (t : List ℕ) → passing w s ≡ some (v, t) → strip w s ≡ some t
passing-some w s v t h = go (strip w s) h
  where
    go : (o : Option (List ℕ)) → onward o (give 0) ≡ some (v, t) → o ≡ some t
    go none h = absurd (none-ne-some _ h)
    go (some u) h = ap (λ (r : ℕ × List ℕ). some r.1) (some-injective (0, u) (v, t) h)

pub passing-none : (w s : List ℕ) → passing w s ≡ none → strip w s ≡ none
passing-none w s h = go (strip w s) h
  where
    go : (o : Option (List ℕ)) → onward {A = ℕ} o (give 0) ≡ none → o ≡ none
    go none h = refl
    go (some u) h = absurd (none-ne-some _ (sym h))

-- What code answers, told: nothing, and a value where a test holds.
module _ {A : Type 0} {get : Get A} {text : List ℕ} {at : ℕ} where
  pub refused : {r : code.Option (A × Cursor)} → r ≡ code.None → Told get text at none → Told get text at (read r)
  refused e t = rw e t

  pub when : (b : Bool) {v : A × Cursor} {r : code.Option (A × Cursor)} → r ≡ then_some b v
      → (b ≡ true → Told get text at (some (v.0, v.1.at))) → (b ≡ false → Told get text at none) → Told get text at (read r)
  when true e t f = rw e (t refl)
  when false e t f = rw e (f refl)

module _ {get : Get ℕ} {text : List ℕ} {at : ℕ} where
  pub refused_past : {r : code.Option Cursor} → r ≡ code.None → Told get text at none → Told get text at (passed r)
  refused_past e t = rw e t

  pub when_past : (b : Bool) {c : Cursor} {r : code.Option Cursor} → r ≡ then_some b c
      → (b ≡ true → Told get text at (some (0, c.at))) → (b ≡ false → Told get text at none) → Told get text at (passed r)
  when_past true e t f = rw e (t refl)
  when_past false e t f = rw e (f refl)

-- From `from` on, `whole` reads what `rest` reads from `at` on.
pub record Left {B : Type 0} (whole : Get B) (text : List ℕ) (from : ℕ) (rest : Get B) (at : ℕ) : Type 0 where
  pub same : whole (drop from text) ≡ rest (drop at text)
  pub there : from ≤ at

module _ {B : Type 0} {whole : Get B} {text : List ℕ} {from : ℕ} where
  pub left_start : Left whole text from whole from
  left_start = record { same = refl; there = omega arith }

  pub left-past : (w : List ℕ) {g : Get B} {at v c : ℕ} → Left whole text from (after w g) at → Told (passing w) text at (some (v, c)) → Left whole text from g c
  left-past w {at = at} {v} {c} L t = record { same = L.same ∙ rw (passing-some w (drop at text) v (drop c text) t.same); there = omega (arith, L.there, t.moved.0) }

  pub left_no_past : (w : List ℕ) (g : Get B) {at : ℕ} → Left whole text from (after w g) at → Told (passing w) text at none → Told whole text from none
  left_no_past w g {at} L t = record { same = L.same ∙ rw (passing-none w (drop at text) t.same); moved = tt }

  pub left_then : {A : Type 0} {g : Get A} (f : A → Get B) {at : ℕ} {a : A} {c : ℕ} → Left whole text from (g ▷ f) at → Told g text at (some (a, c)) → Left whole text from (f a) c
  left_then f L t = record { same = L.same ∙ rw t.same; there = omega (arith, L.there, t.moved.0) }

  pub left_no_then : {A : Type 0} {g : Get A} (f : A → Get B) {at : ℕ} → Left whole text from (g ▷ f) at → Told g text at none → Told whole text from none
  left_no_then f L t = record { same = L.same ∙ rw t.same; moved = tt }

  -- What is left is read by one more reader, and that is all.
  pub left_tail : {g : Get B} {at : ℕ} (found : Option (B × ℕ)) → Left whole text from g at → Told g text at found → Told whole text from found
  left_tail none L t = record { same = L.same ∙ t.same; moved = tt }
  left_tail (some r) L t = record { same = L.same ∙ t.same; moved = (omega (arith, L.there, t.moved.0), t.moved.1) }

  -- The same, with a value given at the end.
  pub left-past-give : (w : List ℕ) {b : B} {at v c : ℕ} → Left whole text from (after w (give b)) at → Told (passing w) text at (some (v, c)) → Told whole text from (some (b, c))
  left-past-give w {at = at} {v} {c} L t = record {
    same = L.same ∙ rw (passing-some w (drop at text) v (drop c text) t.same);
    moved = (omega (arith, L.there, t.moved.0), t.moved.1);
  }

  pub left_then_give : {A : Type 0} {g : Get A} (f : A → B) {at : ℕ} {a : A} {c : ℕ} → Left whole text from (g ▷ λ a. give (f a)) at → Told g text at (some (a, c)) → Told whole text from (some (f a, c))
  left_then_give f L t = record { same = L.same ∙ rw t.same; moved = (omega (arith, L.there, t.moved.0), t.moved.1) }

  -- A reader that reads alike may stand for what is left.
  pub left_as : {g k : Get B} {at : ℕ} → ((s : List ℕ) → g s ≡ k s) → Left whole text from g at → Left whole text from k at
  left_as {at = at} e L = record { same = L.same ∙ e (drop at text); there = L.there }

-- A blank and a number.
abbrev pub spaced : Get ℕ
spaced = after blank (number_get largest_number)

spaced_then : {B : Type 0} (f : ℕ → Get B) (s : List ℕ) → after blank (number_get largest_number ▷ f) s ≡ on (spaced s) f
spaced_then f s = go (strip blank s)
  where
    go : (o : Option (List ℕ)) → onward o (number_get largest_number ▷ f) ≡ on (onward o (number_get largest_number)) f
    go none = refl
    go (some t) = refl

module _ {B : Type 0} {whole : Get B} {text : List ℕ} {from : ℕ} (f : ℕ → Get B) {at : ℕ} (L : Left whole text from (after blank (number_get largest_number ▷ f)) at) where
  pub left_spaced : {n c : ℕ} → Told spaced text at (some (n, c)) → Left whole text from (f n) c
  left_spaced t = left_then f (left_as (spaced_then f) L) t

  pub left_no_spaced : Told spaced text at none → Told whole text from none
  left_no_spaced t = left_no_then f (left_as (spaced_then f) L) t

-- Two runs of bytes, one after the other.
pub after-append : {A : Type 0} (v w : List ℕ) (g : Get A) (s : List ℕ) → after (v ++ w) g s ≡ after v (after w g) s
unfolding strip
after-append [] w g s = refl
after-append (b ∷ v) w g [] = refl
after-append {A} (b ∷ v) w g (c ∷ s) = go (eqb b c) (after-append v w g s)
  where
    go : (x : Bool) → onward (strip (v ++ w) s) g ≡ onward (strip v s) (after w g) → onward (cond x (strip (v ++ w) s) none) g ≡ onward (cond x (strip v s) none) (after w g)
    go true h = h
    go false h = refl

-- How a line begins, read by its bracket and its name.
pub beginning_is : (n : Name) (s : List ℕ) → beginning n s ≡ passing (begun n) s
unfolding beginning begun
beginning_is n s = go (strip opening s) ∙ sym (after-append opening (name_text n) (give 0) s)
  where
    go : (o : Option (List ℕ)) → onward o (named n) ≡ onward o (after (name_text n) (give 0))
    go none = refl
    go (some t) = named_is n t

pub told_begun : {text : List ℕ} {at : ℕ} {found : Option (ℕ × ℕ)} (n : Name) → Told (beginning n) text at found → Told (passing (begun n)) text at found
told_begun n = told_as (beginning_is n)

pub begun-some : (n : Name) → 0 < length (begun n)
unfolding begun opening
begun-some n = omega arith

-- How a line ends, and the first line.
closed_is : closed ≡ closing ++ line_end
unfolding closed closing line_end
closed_is = refl

pub after-closed : {A : Type 0} (g : Get A) (s : List ℕ) → after closed g s ≡ after closing (after line_end g) s
after-closed g s = ap (λ (w : List ℕ). after w g s) closed_is ∙ after-append closing line_end g s

pub after_first : {A : Type 0} (g : Get A) (s : List ℕ) → after first_text g s ≡ after (begun name.Multi) (after line_end g) s
unfolding first_text
after_first g s = after-append (begun name.Multi) line_end g s
