-- The numbers of the readers' answers: 1 where the definition's reader gives none, 0 where it gives a value.
use mathlib.Core.Path.{◌≡◌, refl, sym}
use mathlib.Core.Bool.{Bool, true, false, cond}
use mathlib.Core.Option.{Option, none, some, none-ne-some}
use Rattle.std.specs.Prelude as code
use mathlib.Core.List.{List}
use Prim.Native.Nat.{ℕ}
use lib.Dec.{leb, ltb}
use lib.ListN.{length, drop}
use borrow.Author.Tests.{leb-true, leb-false, le-ltb, lt-ltb}
use Rattle.pictures.specs.Refusals.{refusal, SmallestGiven}
use Rattle.pictures.proofs.Rules.{given-smallest}
use Rattle.text_theory.specs.Readers.{Get}
use Rattle.text_read.specs.declared.cursor.Cursor.{Cursor}
use Rattle.text_read.specs.Answers.{read_on, Told, counted, read}
use Rattle.text_read.specs.Numbers.{missing, unread, reader_rules, line_number, line_length, line_rules}
use Rattle.text_read.specs.Lines.{fitting, Taken}

-- What is found is missing just where the reader gives none.
pub missing-number : {A : Type 0} (text : List ℕ) (o : Option (A × List ℕ)) (found : Option (A × ℕ)) → o ≡ read_on text found → missing found ≡ cond (unread o) 1 0
missing-number text none none e = refl
missing-number text none (some r) e = absurd (none-ne-some _ e)
missing-number text (some x) none e = absurd (none-ne-some _ (sym e))
missing-number text (some x) (some r) e = refl

module _ {A : Type 0} (get : Get A) (text : List ℕ) (at : ℕ) where
  pub told_number : (found : Option (A × ℕ)) → Told get text at found → missing found ≡ refusal (reader_rules get text at)
  told_number found t = missing-number text (get (drop at text)) found t.same

-- A line read into a space: 1 where it breaks its form, 8 where it has it and the space is shorter than its values.
module _ (get : Get (List ℕ)) (text : List ℕ) (at : ℕ) (out : List ℕ) (r : code.Option (ℕ × Cursor)) (out' : List ℕ) (t : Taken get text at out (read r) out') where
  pub line_number_lem : line_number (unread (get (drop at text))) r ≡ refusal (line_rules get text at (length out))
  unfolding counted fitting
  line_number_lem = go (get (drop at text)) refl
    where
      -- the answer, from what the reader gives if it fits
      none_is : (r : code.Option (ℕ × Cursor)) → none ≡ read_on text (read r) → r ≡ code.None
      none_is (code.Some q) e = absurd (none-ne-some _ e)
      none_is code.None e = refl

      some_is : (x : ℕ × List ℕ) (r : code.Option (ℕ × Cursor)) → some x ≡ read_on text (read r) → (b : Bool) → line_number b r ≡ 0
      some_is x (code.Some q) e b = refl
      some_is x code.None e b = absurd (none-ne-some _ (sym e))

      go : (o : Option (List ℕ × List ℕ)) → get (drop at text) ≡ o → line_number (unread o) r ≡ cond (unread o) 1 (cond (ltb (length out) (line_length o)) 8 0)
      go none e = rw (none_is r (rw e at t.told.same))
      go (some x) e = fits (leb (length x.0) (length out)) refl
        where
          fits : (b : Bool) → leb (length x.0) (length out) ≡ b → line_number false r ≡ cond (ltb (length out) (length x.0)) 8 0
          fits true l =
              let s : some (length x.0, x.1) ≡ read_on text (read r) = rw (e, l) at t.told.same in
              rw (le-ltb (length out) (length x.0) (leb-true _ _ l)) (some_is (length x.0, x.1) r s false)
          fits false l =
              let s : none ≡ read_on text (read r) = rw (e, l) at t.told.same in
              rw (lt-ltb (length out) (length x.0) (leb-false _ _ l), none_is r s)

-- Of several, the smallest is given.
pub reader_smallest : {A : Type 0} (get : Get A) (text : List ℕ) (at : ℕ) → SmallestGiven (reader_rules get text at)
reader_smallest get text at = given-smallest _ refl

pub line-smallest : (get : Get (List ℕ)) (text : List ℕ) (at space : ℕ) → SmallestGiven (line_rules get text at space)
line-smallest get text at space = given-smallest _ refl
