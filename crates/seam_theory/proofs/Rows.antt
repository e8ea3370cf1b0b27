-- The cheapest path as a program finds it: a row of sums after the other, and then the way back up. No definition of specs/
-- names what is defined here.
use mathlib.Core.Path.{◌≡◌, refl, sym, ap, ◌∙◌}
use mathlib.Core.Option
use mathlib.Core.Option.{map, some}
use mathlib.Core.List.{List, [], ◌∷◌, flat_map, Memᴰ}
use Prim.Native.Nat.{ℕ, zero, suc, ◌+◌, ◌<◌}
use native.Mathlib.Omega.{arith}
use lib.ListN.{get_or}
use Rattle.grids.specs.Table.{table}
use Rattle.grids.proofs.Tables.{table_at}
use Rattle.seam_theory.specs.Best.{better, first_best, least}
use Rattle.seam_theory.specs.Paths.{run, paths_up, paths, cost}
use Rattle.seam_theory.specs.Seams.{cheapest}
use Rattle.seam_theory.proofs.Best.{best_of-same, best_of-map, best_some, best_mem}
use Rattle.seam_theory.proofs.Least.{by_cost, least_flat_map, least-map, least_shift, least-same}
use Rattle.seam_theory.proofs.Members.{of_run, in_run}
use Rattle.seam_theory.proofs.Listed.{Starts, starts, starts_more, cost-more}

-- The first of several columns at which f is least; c where there is none.
unfoldable pub least_in : List ℕ → (ℕ → ℕ) → ℕ → ℕ
least_in cs f c = Option.get_or (least f cs) c

pub least_in_is : (cs : List ℕ) (f : ℕ → ℕ) (c m : ℕ) → least f cs ≡ some m → least_in cs f c ≡ m
unfolding least_in
least_in_is cs f c m e = rw e

-- Columns from which a path may come: a column of the grid may come from itself, and none leads out of the grid.
pub record Neighbours (above : ℕ → List ℕ) (w : ℕ) : Type 0 where
  pub self : (c : ℕ) → c < w → Memᴰ c (above c)
  pub stay : (c a : ℕ) → c < w → Memᴰ a (above c) → a < w

module _ (above : ℕ → List ℕ) (step : ℕ → ℕ → ℕ → ℕ) where
  -- The cost of coming to column c of row i by way of column a of the row above, whose sums are s.
  abbrev pub through : List ℕ → ℕ → ℕ → ℕ → ℕ
  through s i c a = get_or s a 0 + step i a c

  -- The column by way of which it is least, the first of several.
  abbrev pub from : List ℕ → ℕ → ℕ → ℕ
  from s i c = least_in (above c) (through s i c) c

  -- And that cost.
  abbrev pub sum_at : List ℕ → ℕ → ℕ → ℕ
  sum_at s i c = through s i c (from s i c)

  module _ (w : ℕ) (n : Neighbours above w) where
    pub from-least : (s : List ℕ) (i c : ℕ) → c < w → least (through s i c) (above c) ≡ some (from s i c)
    from-least s i c h =
        let t = best_some (by_cost (through s i c)) (above c) c (n.self c h) in
        t.1 ∙ ap some (sym (least_in_is (above c) (through s i c) c t.0 t.1))

    -- That column is one of those above, so of the grid.
    pub from-mem : (s : List ℕ) (i c : ℕ) → c < w → Memᴰ (from s i c) (above c)
    from-mem s i c h = best_mem (by_cost (through s i c)) (above c) (from s i c) (from-least s i c h)

    pub from-within : (s : List ℕ) (i c : ℕ) → c < w → from s i c < w
    from-within s i c h = n.stay c (from s i c) h (from-mem s i c h)

module _ (above : ℕ → List ℕ) (first : ℕ → ℕ) (step : ℕ → ℕ → ℕ → ℕ) (w : ℕ) where
  -- The sums of row i: the cost of a cheapest path from each column upward.
  unfoldable pub sums : ℕ → List ℕ
  sums zero = table first w
  sums (suc i) = table (sum_at above step (sums i) (suc i)) w

  -- The way back: from column c of row i upward.
  unfoldable pub trace : ℕ → ℕ → List ℕ
  trace zero c = c ∷ []
  trace (suc i) c = c ∷ trace i (from above step (sums i) (suc i) c)

  -- The first column of least sum in row i.
  unfoldable pub bottom : ℕ → ℕ
  bottom i = Option.get_or (least (λ c. get_or (sums i) c 0) (run 0 w)) 0

  -- Each sum of the first row.
  pub first_at : (c : ℕ) → c < w → get_or (sums 0) c 0 ≡ first c
  unfolding sums
  first_at c h = table_at first w c 0 h

  -- Each sum of the row after row i.
  pub next_at : (i c : ℕ) → c < w → get_or (sums (suc i)) c 0 ≡ sum_at above step (sums i) (suc i) c
  unfolding sums
  next_at i c h = table_at (sum_at above step (sums i) (suc i)) w c 0 h

  -- The way back starts at its column and has one column for each row.
  pub traced : (i c : ℕ) → Starts i c (trace i c)
  unfolding trace
  traced zero c = record { rest = []; split = refl; size = refl }
  traced (suc i) c = let a = from above step (sums i) (suc i) c in starts_more i a c (trace i a) (traced i a)

  -- What the rows hold at a column: the best path from it, and its cost.
  record Holds (i c : ℕ) : Type 0 where
    path : least (cost first step) (paths_up above i c) ≡ some (trace i c)
    sum : cost first step (trace i c) ≡ get_or (sums i) c 0

  step-cost : (i a c : ℕ) → Holds i a → cost first step (c ∷ trace i a) ≡ through above step (sums i) (suc i) c a
  step-cost i a c k = cost-more first step i a c (trace i a) (traced i a) ∙ ap (λ n. n + step (suc i) a c) k.sum

  -- The best of the paths from several columns of row i, by a cost f that orders those of each column as the cost does.
  best_trace : (f : List ℕ → ℕ) (g : ℕ → ℕ) (i : ℕ) (cs : List ℕ)
      → ((c : ℕ) → Memᴰ c cs → least f (paths_up above i c) ≡ some (trace i c))
      → ((c : ℕ) → Memᴰ c cs → f (trace i c) ≡ g c)
      → least f (flat_map (paths_up above i) cs) ≡ map (trace i) (least g cs)
  best_trace f g i cs p q =
      least_flat_map f (paths_up above i) cs
      ∙ best_of-same (by_cost f) _ (λ c. some (trace i c)) cs p
      ∙ best_of-map (trace i) (by_cost f) cs
      ∙ ap (map (trace i)) (least-same (λ c. f (trace i c)) g cs q)

  module _ (n : Neighbours above w) where
    holds-next : (i c : ℕ) → c < w → ((a : ℕ) → a < w → Holds i a) → Holds (suc i) c
    unfolding paths_up trace
    holds-next i c h ih = record {
      path = least-map (c ∷◌) (cost first step) _ ∙ ap (map (c ∷◌)) row;
      sum = step-cost i a c (ih a (from-within above step w n (sums i) (suc i) c h)) ∙ sym (next_at i c h);
    }
      where
        f : ℕ → ℕ
        f = through above step (sums i) (suc i) c

        a : ℕ
        a = from above step (sums i) (suc i) c

        held : (b : ℕ) → Memᴰ b (above c) → Holds i b
        held b m = ih b (n.stay c b h m)

        row : least (λ p. cost first step (c ∷ p)) (flat_map (paths_up above i) (above c)) ≡ some (trace i a)
        row =
            best_trace (λ p. cost first step (c ∷ p)) f i (above c)
            (λ b m. least_shift (λ p. cost first step (c ∷ p)) (cost first step) (step (suc i) b c) (paths_up above i b)
            (λ p j. cost-more first step i b c p (starts above i b p j)) ∙ (held b m).path)
            (λ b m. step-cost i b c (held b m))
            ∙ ap (map (trace i)) (from-least above step w n (sums i) (suc i) c h)

    holds : (i c : ℕ) → c < w → Holds i c
    unfolding paths_up trace cost first_best better
    holds zero c h = record { path = refl; sum = sym (first_at c h) }
    holds (suc i) c h = holds-next i c h (holds i)

    -- A sum is the cost of the way back from its column.
    pub trace-cost : (i c : ℕ) → c < w → cost first step (trace i c) ≡ get_or (sums i) c 0
    trace-cost i c h = (holds i c h).sum

    -- It is what is found among the sums of a row.
    pub bottom-least : 0 < w → (i : ℕ) → least (λ c. get_or (sums i) c 0) (run 0 w) ≡ some (bottom i)
    unfolding bottom
    bottom-least h i =
        let t = best_some (by_cost (λ c. get_or (sums i) c 0)) (run 0 w) 0 (in_run 0 w 0 (omega arith) (omega arith)) in
        rw t.1

    -- The cheapest path is the way back from the first of the least sums of the last row.
    pub cheapest-trace : 0 < w → (i : ℕ) → cheapest above first step w (suc i) ≡ some (trace i (bottom i))
    unfolding paths
    cheapest-trace h i =
        best_trace (cost first step) (λ c. get_or (sums i) c 0) i (run 0 w) (λ c m. (held c m).path) (λ c m. (held c m).sum)
        ∙ ap (map (trace i)) (bottom-least h i)
      where
        held : (c : ℕ) → Memᴰ c (run 0 w) → Holds i c
        held c m = holds i c (omega (arith, of_run 0 w c m))
