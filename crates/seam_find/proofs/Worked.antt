-- Laws of what is given after success and after 9 and every higher number.
use mathlib.Core.Path.{◌≡◌}
use mathlib.Core.Bool.{Bool, true, false, cond}
use Prim.Native.Nat.{ℕ, ◌≤◌, ◌<◌}
use native.Mathlib.Omega.{arith}
use borrow.Author.Tests.{ne_eqb, le-ltb}
use Rattle.pictures.specs.Refusals.{worked}

module _ {A : Type 0} (n : ℕ) (x y : A) where
  -- After 1 to 8 it is the second.
  pub worked_not : 0 < n → n ≤ 8 → worked n x y ≡ y
  worked_not h l = let z : n ≡ 0 → ⊥ = λ e. omega arith in rw (ne_eqb n 0 z, le-ltb 8 n l)

  -- After success or 12 it is the first.
  pub worked-or : (t : Bool) → n ≡ cond t 12 0 → worked n x y ≡ x
  worked-or true e = rw e
  worked-or false e = rw e
