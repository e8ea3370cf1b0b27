-- The three cost rows of a row say what coming to each of its columns costs, by the column that a path comes from.
use mathlib.Core.Path.{◌≡◌, refl, sym, ap, ◌∙◌}
use mathlib.Core.Logic.{◌⊎◌, inl, inr}
use mathlib.Core.Bool.{Bool, true, false}
use mathlib.Core.Option.{none, some, none-ne-some, some-injective}
use mathlib.Core.List.{List}
use Prim.Native.Nat.{ℕ, ◌+◌, ◌-◌, ◌≤◌, ◌<◌}
use native.Mathlib.Omega.{arith}
use lib.ListN.{get_or}
use Rattle.grids.proofs.Orders.{le-or-lt}
use Rattle.grids.proofs.Tables.{table_at}
use Rattle.energy.specs.Around.{left_of}
use Rattle.energy.specs.Energy.{StepCosts, toward}
use Rattle.energy.proofs.Steps.{left_inner, left-first, left-none, toward_up, toward-left, toward_right}
use Rattle.seam_theory.specs.Sums.{joined_at, cost_rows}
use Rattle.seam_theory.proofs.Joins.{joined_is}
use Rattle.seam_theory.proofs.Fenced.{Through}

-- Of two joined columns the left and the right neighbour are one pixel: coming from it costs the same by either name.
module _ (wrap : Bool) (w : ℕ) (k : ℕ → StepCosts) (two : w ≡ 2 → wrap ≡ true → (k 0).left ≡ (k 0).right) where
  -- From the left.
  from-left : (c : ℕ) → c + 1 < w → toward wrap w c (c + 1) (k (c + 1)) ≡ (k (c + 1)).left
  from-left c h = toward-left wrap w c (c + 1) (k (c + 1)) (λ n. omega arith) (left_inner wrap w (c + 1) (omega arith) ∙ ap some (omega arith))

  -- From the right: in the first of two columns that are joined it is the left neighbour too.
  from_right : (c : ℕ) → c + 1 < w → toward wrap w (c + 1) c (k c) ≡ (k c).right
  from_right c h = go (le-or-lt c 0)
    where
      none_left : wrap ≡ false → c ≡ 0 → left_of wrap w c ≡ none
      none_left y e = rw (y, e) (left-none w)

      last-left : wrap ≡ true → c ≡ 0 → left_of wrap w c ≡ some (w - 1)
      last-left y e = rw (y, e) (left-first w)

      first : (b : Bool) → wrap ≡ b → c ≡ 0 → (w ≤ 2) ⊎ (2 < w) → toward wrap w (c + 1) c (k c) ≡ (k c).right
      first false y e l =
          toward_right wrap w (c + 1) c (k c) (λ n. omega arith)
          (λ n. none-ne-some (c + 1) (sym (none_left y e) ∙ n))
      first true y e (inl l) =
          let last : w - 1 ≡ c + 1 = omega arith in
          toward-left wrap w (c + 1) c (k c) (λ n. omega arith) (last-left y e ∙ ap some last) ∙ rw e (two (omega arith) y)
      first true y e (inr l) =
          toward_right wrap w (c + 1) c (k c) (λ n. omega arith)
          (λ n. omega (arith, some-injective (w - 1) (c + 1) (sym (last-left y e) ∙ n)))

      go : (c ≤ 0) ⊎ (0 < c) → toward wrap w (c + 1) c (k c) ≡ (k c).right
      go (inl l) = first wrap refl (omega arith) (le-or-lt w 2)
      go (inr l) =
          toward_right wrap w (c + 1) c (k c) (λ n. omega arith)
          (λ n. omega (arith, some-injective (c - 1) (c + 1) (sym (left_inner wrap w c l) ∙ n)))

  module _ (j : joined_at wrap w ≡ true) where
    wraps : wrap ≡ true
    wraps = (joined_is wrap w j).0

    many : 2 < w
    many = (joined_is wrap w j).1

    -- From the last column to the first,
    over_first : toward wrap w (w - 1) 0 (k 0) ≡ (k 0).left
    over_first = toward-left wrap w (w - 1) 0 (k 0) (λ n. omega (arith, many)) (rw wraps (left-first w))

    -- and from the first to the last.
    over_last : toward wrap w 0 (w - 1) (k (w - 1)) ≡ (k (w - 1)).right
    over_last =
        toward_right wrap w 0 (w - 1) (k (w - 1)) (λ n. omega (arith, many))
        (λ n. omega (arith, many, some-injective (w - 1 - 1) 0 (sym (left_inner wrap w (w - 1) (omega (arith, many))) ∙ n)))

  -- The rows say what the steps cost, below any row of sums.
  pub rows-through : (s : List ℕ) → Through (joined_at wrap w) w s (cost_rows w k) (λ c a. get_or s a 0 + toward wrap w a c (k c))
  rows-through s = record {
    left_is = λ c h. ap (get_or s c 0 +◌) (from-left c h ∙ sym (table_at (λ c. (k c).left) w (c + 1) 0 h));
    up_is = λ c h. ap (get_or s c 0 +◌) (toward_up wrap w c (k c) ∙ sym (table_at (λ c. (k c).up) w c 0 h));
    right_is = λ c h. ap (get_or s (c + 1) 0 +◌) (from_right c h ∙ sym (table_at (λ c. (k c).right) w c 0 (omega arith)));
    over_left = λ j. ap (get_or s (w - 1) 0 +◌) (over_first j ∙ sym (table_at (λ c. (k c).left) w 0 0 (omega (arith, many j))));
    over_right = λ j. ap (get_or s 0 0 +◌) (over_last j ∙ sym (table_at (λ c. (k c).right) w (w - 1) 0 (omega (arith, many j))));
  }
