-- Cases and tests on numbers.
use mathlib.Core.Path.{◌≡◌, sym, ◌∙◌}
use mathlib.Core.Logic.{◌⊎◌, inl, inr, ⊎_elim}
use Prim.Native.Nat.{ℕ, ◌+◌, ◌≤◌, ◌<◌}
use native.Mathlib.Nat.{eq-or-lt_of_le}
use native.Mathlib.Omega.{arith}
use lib.Dec.{leb}
use borrow.Author.Tests.{le-leb, lt-leb}
use Rattle.grids.proofs.Orders.{le-or-lt}

-- Of two numbers the first is more, as much, or less.
abbrev pub Compared : ℕ → ℕ → Type 0
Compared a b = (b < a) ⊎ ((a ≡ b) ⊎ (a < b))

-- It is one of these.
pub compared : (a b : ℕ) → Compared a b
compared a b = ⊎_elim (λ l. inr (eq-or-lt_of_le l)) inl (le-or-lt a b)

-- To add the same on both sides changes no test.
pub leb_add : (x y k : ℕ) → leb (x + k) (y + k) ≡ leb x y
leb_add x y k = go (le-or-lt x y)
  where
    go : (x ≤ y) ⊎ (y < x) → leb (x + k) (y + k) ≡ leb x y
    go (inl h) = le-leb (x + k) (y + k) (omega arith) ∙ sym (le-leb x y h)
    go (inr h) = lt-leb (x + k) (y + k) (omega arith) ∙ sym (lt-leb x y h)
