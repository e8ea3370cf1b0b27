-- The neighbours of a pixel, where there are some: what is asked of the row above and of the one below, and the columns beside one.
use mathlib.Core.Path.{◌≡◌, ap}
use mathlib.Core.Logic.{⊎_elim}
use mathlib.Core.Bool.{false}
use mathlib.Core.Option.{none, some, map}
use Prim.Native.Nat.{ℕ, ◌+◌, ◌-◌, ◌≤◌, ◌<◌}
use native.Mathlib.Omega.{arith}
use borrow.Author.Tests.{le-ltb, lt-ltb}
use Rattle.grids.proofs.Orders.{le-or-lt}
use Rattle.energy.specs.Around.{left_of, right_of, above_of, below_of}

-- The row above, and the one below, where there is one.
pub map_above : {A : Type 0} (f g : ℕ → A) (r : ℕ) → ((a : ℕ) → a + 1 ≡ r → f a ≡ g a) → map f (above_of r) ≡ map g (above_of r)
unfolding above_of
map_above f g r same =
    ⊎_elim
    (λ (l : r ≤ 0). rw (le-ltb 0 r l))
    (λ (l : 0 < r). rw (lt-ltb 0 r l) (ap some (same (r - 1) (omega arith))))
    (le-or-lt r 0)

pub map_below : {A : Type 0} (f g : ℕ → A) (h r : ℕ) → (r + 1 < h → f (r + 1) ≡ g (r + 1)) → map f (below_of h r) ≡ map g (below_of h r)
unfolding below_of
map_below f g h r same =
    ⊎_elim
    (λ (l : h ≤ r + 1). rw (le-ltb (r + 1) h l))
    (λ (l : r + 1 < h). rw (lt-ltb (r + 1) h l) (ap some (same l)))
    (le-or-lt h (r + 1))

-- Without the join: the columns beside one, and what a row's width leaves of them.
pub left_is : (w c : ℕ) → 0 < c → left_of false w c ≡ some (c - 1)
unfolding left_of
left_is w c l = rw (lt-ltb 0 c l)

pub left_none : (w c : ℕ) → c ≤ 0 → left_of false w c ≡ none
unfolding left_of
left_none w c l = rw (le-ltb 0 c l)

pub right_is : (w c : ℕ) → c + 1 < w → right_of false w c ≡ some (c + 1)
unfolding right_of
right_is w c l = rw (lt-ltb (c + 1) w l)

pub right_none : (w c : ℕ) → w ≤ c + 1 → right_of false w c ≡ none
unfolding right_of
right_none w c l = rw (le-ltb (c + 1) w l)
