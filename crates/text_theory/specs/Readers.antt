-- Readers: a reader takes a value off the front of a list of bytes and gives it with the bytes that are left, or refuses.
use Rattle.std.specs.Prelude.{cond, List, [], ◌∷◌, ℕ, zero, suc, eqb, length}
use Rattle.std.proofs.Math.Option.{Option, none, some}
use Rattle.std.specs.Prelude as code

-- An answer of the code as one of the definitions.
abbrev pub answered : {A : Type 0} → code.Option A → Option A
answered code.None = none
answered (code.Some a) = some a

abbrev pub Get : Type 0 → Type 0
Get A = List ℕ → Option (A × List ℕ)

-- The reader that reads nothing and gives a.
abbrev pub give : {A : Type 0} → A → Get A
give a s = some (a, s)

-- What goes on with a reader's answer; a refusal stays one.
abbrev pub on : {A B : Type 0} → Option (A × List ℕ) → (A → Get B) → Option (B × List ℕ)
on none f = none
on (some r) f = f r.0 r.1

-- First one reader, then the reader that its value asks for.
infixr 20 ◌▷◌
abbrev pub ◌▷◌ : {A B : Type 0} → Get A → (A → Get B) → Get B
◌▷◌ g f s = on (g s) f

-- What is left of s after the bytes w.
unfoldable pub strip : List ℕ → List ℕ → Option (List ℕ)
strip [] s = some s
strip (b ∷ w) [] = none
strip (b ∷ w) (c ∷ s) = cond (eqb b c) (strip w s) none

-- A reader reads on from what is left; a refusal stays one.
abbrev pub onward : {A : Type 0} → Option (List ℕ) → Get A → Option (A × List ℕ)
onward none g = none
onward (some t) g = g t

-- The bytes w, then a reader.
abbrev pub after : {A : Type 0} → List ℕ → Get A → Get A
after w g s = onward (strip w s) g

-- One reader's answer; another's where it refuses.
abbrev pub either : {A : Type 0} → Option A → Option A → Option A
either none o = o
either (some a) o = some a

-- The value, if there is one; else a refusal.
abbrev pub known : {A : Type 0} → Option A → Get A
known none s = none
known (some a) s = some (a, s)

-- As long as w stands next: w, then a value.
unfoldable pub next : {A : Type 0} → Option (List ℕ) → List ℕ → Get A → Get (List A) → Option (List A × List ℕ)
next none s g rest = some ([], s)
next (some t) s g rest = (g ▷ λ x. rest ▷ λ xs. give (x ∷ xs)) t

-- The number bounds how often; the bytes are enough of a bound.
unfoldable pub many_up_to : {A : Type 0} → ℕ → List ℕ → Get A → Get (List A)
many_up_to zero w g s = none
many_up_to (suc n) w g s = next (strip w s) s g (many_up_to n w g)

unfoldable pub many : {A : Type 0} → List ℕ → Get A → Get (List A)
many w g s = many_up_to (suc (length s)) w g s
