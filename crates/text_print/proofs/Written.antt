-- A text written into a space that has room for it, and what printing leaves.
use mathlib.Core.Path.{◌≡◌, refl, sym, ◌∙◌}
use Rattle.std.specs.Prelude.{◌++◌, Option, None, Some, List, [], ◌∷◌, ℕ, suc, ◌+◌, ◌/◌, ◌%◌, ◌≤◌, ◌<◌, length, take, drop}
use Rattle.std.proofs.Common.{arith, add-one, add-zero, append_assoc, get_or, drop-cons}
use Rattle.std.specs.Option.{option_and_then}
use Rattle.std.proofs.Math.Seq.{sets, sets-eq}
use Rattle.std.proofs.Math.ListN.{set, length-set}
use borrow.Author.Tests.{le-leb, lt-leb, lt-ltb}
use native.Mathlib.Nat.{div-add-mod', mod-lt}
use Rattle.text_theory.specs.Decimal.{digits}
use Rattle.text_theory.proofs.Decimals.{digits_small, digits-large}
use Rattle.text_lengths.specs.Sinks.{puts}
use Rattle.text_print.specs.declared.printing.Out.{Out}
use Rattle.text_print.specs.Outs.{out_takes}
use Rattle.text_print.specs.Prints.{Put}

-- The bytes from an index on: the first of them is taken, and the others after it.
module _ {S : Type 0} (takes : S → ℕ → Option S) (s : S) (w : List ℕ) (i : ℕ) (h : i < length w) where
  front : puts takes s (drop i w) ≡ option_and_then (λ t. puts takes t (drop (i + 1) w)) (takes s (get_or w i 0))
  unfolding puts
  front = rw (add-one, drop-cons w i 0 h)

  pub byte_taken : {t : S} → Some t ≡ takes s (get_or w i 0) → puts takes s (drop i w) ≡ puts takes t (drop (i + 1) w)
  byte_taken e = front ∙ rw (← e) refl

  pub byte_refused : None ≡ takes s (get_or w i 0) → None ≡ puts takes s (drop i w)
  byte_refused e = sym (front ∙ rw (← e) refl)

-- The space and the place after the bytes w.
abbrev pub after : Out → List ℕ → Out
after s w = record { space = record s.space { now = sets s.space.now s.at w }; at = s.at + length w }

pub out_puts : (w : List ℕ) (s : Out) → s.at + length w ≤ length s.space.now → puts out_takes s w ≡ Some (after s w)
unfolding puts
out_puts [] s h = rw add-zero
out_puts (x ∷ w) s h =
    let next : Out = record { space = record s.space { now = set s.space.now s.at x }; at = s.at + 1 } in
    let z : s.at + 1 + length w ≡ s.at + suc (length w) = omega arith in
    let room : next.at + length w ≤ length next.space.now = simp length-set (omega arith) in
    rw (lt-ltb s.at (length s.space.now) (omega arith)) (out_puts w next room ∙ rw (z, add-one))

-- Numbers of two and of three digits.
pub two_digits : (n : ℕ) → 10 ≤ n → n < 100 → digits n ≡ (48 + n / 10) ∷ (48 + n % 10) ∷ []
two_digits n p q = let d = div-add-mod' n 10 in rw (digits-large n p, digits_small (n / 10) (omega arith))

pub three_digits : (n : ℕ) → 100 ≤ n → n < 1000 → digits n ≡ (48 + n / 10 / 10) ∷ (48 + n / 10 % 10) ∷ (48 + n % 10) ∷ []
three_digits n p q =
    let d = div-add-mod' n 10 in
    let r = mod-lt n {m = 10} (omega arith) in
    rw (digits-large n (omega arith), two_digits (n / 10) (omega arith) (omega arith))

pub put_short : {out : List ℕ} {at : ℕ} {bytes : List ℕ} → length out < at + length bytes → Put out at bytes None out
put_short {out} {at} {bytes} h = record { answer = rw (lt-leb (at + length bytes) (length out) h); space = rw (lt-leb (at + length bytes) (length out) h) }

pub put_done : {out : List ℕ} {at : ℕ} {bytes out' : List ℕ} {end : ℕ} → at + length bytes ≤ length out → end ≡ at + length bytes → out' ≡ sets out at bytes
    → Put out at bytes (Some end) out'
put_done {out} {at} {bytes} {out'} {end} h e same = record {
  answer = rw (le-leb (at + length bytes) (length out) h, e);
  space = rw (le-leb (at + length bytes) (length out) h) (same ∙ sets-eq bytes out at h ∙ append_assoc (take at out) bytes (drop (at + length bytes) out));
}

-- What is printed at the front of a space that has room for it.
pub put_front : {out : List ℕ} {bytes : List ℕ} {end : ℕ} {out' : List ℕ} → length bytes ≤ length out → Put out 0 bytes (Some end) out'
    → (end ≡ length bytes) × (out' ≡ bytes ++ drop (length bytes) out)
put_front {out} {bytes} {end} {out'} h p =
    let z : 0 + length bytes ≡ length bytes = omega arith in
    let e : Some end ≡ Some (length bytes) = p.answer ∙ rw (z, le-leb (length bytes) (length out) h) in
    (cc, p.space ∙ rw (z, le-leb (length bytes) (length out) h))

-- And at a place.
module _ {out : List ℕ} {at : ℕ} {bytes out' : List ℕ} (room : at + length bytes ≤ length out) where
  pub printed_next : {end : ℕ} → Put out at bytes (Some end) out' → (end ≡ at + length bytes) × (out' ≡ sets out at bytes)
  printed_next {end} p =
      let e : Some end ≡ Some (at + length bytes) = p.answer ∙ rw (le-leb (at + length bytes) (length out) room) in
      let same : out' ≡ sets out at bytes =
      p.space ∙ (rw (le-leb (at + length bytes) (length out) room) refl)
      ∙ sym (sets-eq bytes out at room ∙ append_assoc (take at out) bytes (drop (at + length bytes) out))
      in
      (cc, same)

  pub never_short : Put out at bytes None out' → ⊥
  never_short p =
      let e : ◌≡◌ {A = Option ℕ} None (Some (at + length bytes)) = p.answer ∙ rw (le-leb (at + length bytes) (length out) room) in
      cc
