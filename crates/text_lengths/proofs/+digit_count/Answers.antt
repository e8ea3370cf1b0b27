-- Below a thousand there is a digit more from ten on, and one more from a hundred on; else the last digit stands after the others.
use mathlib.Core.Path.{◌≡◌, refl}
use Rattle.std.specs.Prelude.{Bool, true, false, ℕ, ◌+◌, ◌/◌, ◌<◌, ◌≤◌, leb, length}
use native.Mathlib.Nat.{div-add-mod', mod-lt}
use native.Mathlib.Omega.{arith}
use mir.Val.{bool_byte}
use borrow.Author.Tests.{leb-true, leb-false}
use Rattle.text_theory.specs.Decimal.{digits}
use Rattle.text_theory.proofs.Decimals.{length_small, length-large}
use Rattle.text_lengths.proofs.+digit_count.Goals as goal

up_to_three : (n : ℕ) → n < 1000 → (1 + bool_byte (leb 10 n) + bool_byte (leb 100 n) ≡ length (digits n)) × (1 + bool_byte (leb 10 n) + bool_byte (leb 100 n) ≤ n + 1)
up_to_three n h = go (leb 10 n) (leb 100 n) refl refl
  where
    tens : (m : ℕ) → 10 ≤ m → m < 100 → length (digits m) ≡ 2
    tens m p q = let d = div-add-mod' m 10 in let r = mod-lt m {m = 10} (omega arith) in omega (arith, length-large m p, length_small (m / 10) (omega arith))

    go : (s t : Bool) → leb 10 n ≡ s → leb 100 n ≡ t → (1 + bool_byte s + bool_byte t ≡ length (digits n)) × (1 + bool_byte s + bool_byte t ≤ n + 1)
    go false false e f = let l = leb-false 10 n e in let m = length_small n l in (omega arith, omega arith)
    go false true e f = let l = leb-false 10 n e in let m = leb-true 100 n f in absurd (omega arith)
    go true false e f = let l = leb-true 10 n e in let m = leb-false 100 n f in let d = tens n l m in (omega arith, omega arith)
    go true true e f =
        let m = leb-true 100 n f in
        let d = div-add-mod' n 10 in
        let r = mod-lt n {m = 10} (omega arith) in
        let l = tens (n / 10) (omega arith) (omega arith) in
        let k = length-large n (omega arith) in
        (omega arith, omega arith)

pub returns-then-n-lt1000 : goal.returns-then-n-lt1000
returns-then-n-lt1000 t c = rw (c.from.ensures, c.from-then-n-lt1000.ensures) (up_to_three c.args.n c.if-n-lt1000.true)

pub returns-else-n-lt1000 : goal.returns-else-n-lt1000
returns-else-n-lt1000 t c = let h = c.if-n-lt1000.false in let m = length-large c.args.n (omega arith) in (omega arith, omega arith)
