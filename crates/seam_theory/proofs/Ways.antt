-- Laws of the ways: which of three sums decides at a column, and the column to which a way leads.
use mathlib.Core.Path.{◌≡◌, ◌∙◌}
use mathlib.Core.Logic.{◌⊎◌, inl, inr, ⊎_elim}
use mathlib.Core.Bool.{Bool, false, ◌&&◌, and-false}
use mathlib.Core.List.{List}
use Prim.Native.Nat.{ℕ, ◌+◌, ◌-◌, ◌≤◌, ◌<◌}
use native.Mathlib.Omega.{arith}
use lib.Dec.{eqb}
use borrow.Author.Tests.{lt-ltb, le-ltb, eq-eqb, ne_eqb}
use Rattle.grids.proofs.Orders.{le-or-lt}
use Rattle.seam_theory.specs.Sums.{first_of3, CostRows, joined_at, left_sum, up_sum, right_sum, way_of3, came_from}

-- Which column a way leads to, by the tests that decide it.
module _ (w c way : ℕ) where
  pub came_last : c + way ≡ 0 → came_from w c way ≡ w - 1
  unfolding came_from
  came_last e = rw (eq-eqb (c + way) 0 e)

  pub came_first : w < c + way → came_from w c way ≡ 0
  unfolding came_from
  came_first l = rw (ne_eqb (c + way) 0 (λ e. omega arith), lt-ltb w (c + way) l)

  pub came_inner : 0 < c + way → c + way ≤ w → came_from w c way ≡ c + way - 1
  unfolding came_from
  came_inner h l = rw (ne_eqb (c + way) 0 (λ e. omega arith), le-ltb w (c + way) l)

  -- It is one of the columns.
  pub came_inside : 0 < w → came_from w c way < w
  came_inside h =
      ⊎_elim
      (λ (e : c + way ≤ 0). omega (arith, came_last (omega arith)))
      (λ (l : 0 < c + way). ⊎_elim (λ m. omega (arith, came_inner l m)) (λ m. omega (arith, came_first m)) (le-or-lt (c + way) w))
      (le-or-lt (c + way) 0)

  -- It is m, where m is a column of the grid and the way leads there.
  pub came_to : (m : ℕ) → c + way ≡ m + 1 → m < w → came_from w c way ≡ m
  came_to m e l = came_inner (omega arith) (omega arith) ∙ omega arith

-- A column that has its left neighbour, or its right one, beside it and not across the join.
abbrev pub HasLeft : Bool → ℕ → Type 0
HasLeft join c = (0 < c) ⊎ (join ≡ false)

abbrev pub HasRight : Bool → ℕ → ℕ → Type 0
HasRight join w c = (c + 1 < w) ⊎ (join ≡ false)

-- At one that has both, the left sum comes first.
pub way_plain : (wrap : Bool) (w : ℕ) (x : List ℕ) (k : CostRows) (c : ℕ) → HasLeft (joined_at wrap w) c → HasRight (joined_at wrap w) w c
    → way_of3 wrap w x k c ≡ first_of3 (left_sum x k c) (up_sum x k c) (right_sum x k c)
unfolding way_of3
way_plain wrap w x k c p q = rw (no-first p, no_last q)
  where
    no-first : HasLeft (joined_at wrap w) c → (joined_at wrap w && eqb c 0) ≡ false
    no-first (inl l) = rw (ne_eqb c 0 (λ n. omega arith)) (and-false (joined_at wrap w))
    no-first (inr j) = rw j

    no_last : HasRight (joined_at wrap w) w c → (joined_at wrap w && eqb (c + 1) w) ≡ false
    no_last (inl l) = rw (ne_eqb (c + 1) w (λ n. omega arith)) (and-false (joined_at wrap w))
    no_last (inr j) = rw j
