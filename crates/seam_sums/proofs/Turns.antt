-- Laws of the least of sums, over plain numbers: the proofs at any width of number cite them.
use mathlib.Core.Path.{◌≡◌, refl, sym, ◌∙◌}
use mathlib.Core.Logic.{⊎_elim}
use Rattle.grids.proofs.Orders.{le-or-lt}
use Prim.Native.Nat.{ℕ, zero, suc, ◌+◌, ◌-◌, ◌≤◌, ◌<◌, min}
use mathlib.Core.Bool.{Bool, true, false, cond}
use mathlib.Core.List.{List}
use native.Mathlib.Omega.{arith}
use lib.Dec.{ltb}
use lib.ListN.{get_or}
use borrow.Author.Tests.{lt-ltb, le-ltb, le-leb, lt-leb}
use Rattle.seam_theory.specs.Sums.{first_of3, least_to}

-- Which of three, by the tests that decide it.
module _ (left middle right least : ℕ) (is : least ≡ min middle right) where
  pub way_left : left ≤ least → 0 ≡ first_of3 left middle right
  unfolding first_of3
  way_left l = let h : left ≤ min middle right = rw is at l in rw (le-leb left (min middle right) h)

  pub way_middle : least < left → middle ≤ right → 1 ≡ first_of3 left middle right
  unfolding first_of3
  way_middle l m = let h : min middle right < left = rw is at l in rw (lt-leb left (min middle right) h, le-leb middle right m)

  pub way_right : least < left → right < middle → 2 ≡ first_of3 left middle right
  unfolding first_of3
  way_right l m = let h : min middle right < left = rw is at l in rw (lt-leb left (min middle right) h, lt-leb middle right m)

-- The first least is one of the columns looked at.
pub least_inside : (s : List ℕ) (n : ℕ) → least_to s n ≤ n
unfolding least_to
least_inside s zero = omega arith
least_inside s (suc n) = go (ltb (get_or s (suc n) 0) (get_or s (least_to s n) 0)) (least_inside s n)
  where
    go : (t : Bool) → least_to s n ≤ n → cond t (suc n) (least_to s n) ≤ suc n
    go true h = omega arith
    go false h = omega arith

-- What holds before column k is looked at: `best` is the first of the least before it.
pub record SoFar (s : List ℕ) (k best : ℕ) : Type 0 where
  pub is : best ≡ least_to s (k - 1)
  pub before : best ≤ k - 1

module _ (s : List ℕ) where
  pub so_far_start : SoFar s 0 0
  unfolding least_to
  so_far_start = record { is = refl; before = omega arith }

  -- One column more: it is less than the least so far, or it isn't.
  module _ (k best : ℕ) (so : SoFar s k best) where
    next : 0 < k → k + 1 - 1 ≡ suc (k - 1)
    next some = omega arith

    here : 0 < k → suc (k - 1) ≡ k
    here some = omega arith

    pub least-moves : get_or s k 0 < get_or s best 0 → SoFar s (k + 1) k
    unfolding least_to
    least-moves l = ⊎_elim first later (le-or-lt k 0)
      where
        later : 0 < k → SoFar s (k + 1) k
        later some =
            let m : get_or s (suc (k - 1)) 0 < get_or s (least_to s (k - 1)) 0 = rw (here some, ← so.is) l in
            let f : least_to s (k + 1 - 1) ≡ k = rw (next some, lt-ltb (get_or s (suc (k - 1)) 0) (get_or s (least_to s (k - 1)) 0) m) (here some) in
            record { is = sym f; before = omega arith }

        -- column 0 isn't less than itself
        first : k ≤ 0 → SoFar s (k + 1) k
        first none = let e : best ≡ k = omega (arith, so.before) in absurd (let h : get_or s k 0 < get_or s k 0 = rw e at l in omega arith)

    pub least_stays : get_or s best 0 ≤ get_or s k 0 → SoFar s (k + 1) best
    unfolding least_to
    least_stays l = ⊎_elim first later (le-or-lt k 0)
      where
        later : 0 < k → SoFar s (k + 1) best
        later some =
            let m : get_or s (least_to s (k - 1)) 0 ≤ get_or s (suc (k - 1)) 0 = rw (here some, ← so.is) l in
            let f : least_to s (k + 1 - 1) ≡ least_to s (k - 1) = rw (next some, le-ltb (get_or s (suc (k - 1)) 0) (get_or s (least_to s (k - 1)) 0) m) in
            record { is = so.is ∙ sym f; before = omega (arith, so.before) }

        first : k ≤ 0 → SoFar s (k + 1) best
        first none = let e : k + 1 - 1 ≡ k - 1 = omega arith in record { is = rw e so.is; before = omega (arith, so.before) }
