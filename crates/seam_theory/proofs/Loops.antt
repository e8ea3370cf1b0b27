-- The first least of several, in the terms of the loop that looks for it, and where the cheapest path ends.
use mathlib.Core.Path.{◌≡◌, ◌∙◌}
use mathlib.Core.Option.{some}
use mathlib.Core.List.{List, [], ◌∷◌}
use Prim.Native.Nat.{ℕ, ◌+◌, ◌-◌, ◌≤◌, ◌<◌}
use native.Mathlib.Omega.{arith}
use borrow.Author.Tests.{le-leb, lt-leb}
use lib.ListN.{get_or}
use Rattle.seam_theory.specs.Best.{better, first_best, least}
use Rattle.seam_theory.specs.Paths.{run, cost}
use Rattle.seam_theory.proofs.Best.{better-left, better_right, best_mem}
use Rattle.seam_theory.proofs.Least.{by_cost, least-append}
use Rattle.seam_theory.proofs.Members.{of_run, run-append}
use Rattle.seam_theory.proofs.Rows.{Neighbours, sums, trace, bottom, trace-cost, bottom-least}

-- A loop that looks for the first least of the columns from lo on: b is that of the columns below k.
module _ (f : ℕ → ℕ) (lo : ℕ) where
  one_more : (n b : ℕ) → least f (run lo n) ≡ some b → least f (run lo (n + 1)) ≡ better (by_cost f) (some b) (some (lo + n))
  unfolding run first_best better
  one_more n b e = rw (run-append lo n 1, least-append f (run lo n) ((lo + n) ∷ []), e)

  -- At its start it has seen one column.
  pub starts_at : least f (run lo (lo + 1 - lo)) ≡ some lo
  unfolding run first_best better
  starts_at = let p : lo + 1 - lo ≡ 1 = omega arith in rw p

  module _ (k b : ℕ) (l : lo ≤ k) (seen : least f (run lo (k - lo)) ≡ some b) where
    next : least f (run lo (k + 1 - lo)) ≡ better (by_cost f) (some b) (some k)
    next =
        let p : k + 1 - lo ≡ k - lo + 1 = omega arith in
        let q : lo + (k - lo) ≡ k = omega arith in
        rw p (one_more (k - lo) b seen ∙ rw q)

    -- Column k is no better: the first least stays.
    pub keeps : f b ≤ f k → least f (run lo (k + 1 - lo)) ≡ some b
    keeps h = next ∙ better-left (by_cost f) b k (le-leb (f b) (f k) h)

    -- Column k is better.
    pub moves : f k < f b → least f (run lo (k + 1 - lo)) ≡ some k
    moves h = next ∙ better_right (by_cost f) b k (lt-leb (f b) (f k) h)

module _ (above : ℕ → List ℕ) (first : ℕ → ℕ) (step : ℕ → ℕ → ℕ → ℕ) (w : ℕ) where
  -- What a loop over a whole row finds is the first of the least sums.
  pub bottom_is : (i b : ℕ) → least (λ c. get_or (sums above first step w i) c 0) (run 0 w) ≡ some b → bottom above first step w i ≡ b
  unfolding bottom
  bottom_is i b e = rw e

  module _ (n : Neighbours above w) (some-column : 0 < w) where
    -- It is a column of the grid.
    pub bottom-within : (i : ℕ) → bottom above first step w i < w
    bottom-within i =
        let b = bottom above first step w i in
        omega (arith, of_run 0 w b (best_mem (by_cost (λ c. get_or (sums above first step w i) c 0)) (run 0 w) b (bottom-least above first step w n some-column i)))

    -- The cost of the cheapest path is the sum where it starts.
    pub cheapest-cost : (i : ℕ) → cost first step (trace above first step w i (bottom above first step w i)) ≡ get_or (sums above first step w i) (bottom above first step w i) 0
    cheapest-cost i = trace-cost above first step w n i (bottom above first step w i) (bottom-within i)
