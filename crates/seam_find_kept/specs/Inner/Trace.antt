-- The way back. What private functions ask and promise; no public promise cites it.
use Rattle.std.specs.Prelude.{◌≡◌, Bool, true, false, List, ◌++◌, ℕ, ◌+◌, ◌*◌, ◌≤◌, ◌<◌, ltb, length, get_or, drop}
use Rattle.pictures.specs.declared.sizes.Size.{Size}
use Rattle.seam_theory.specs.Sums.{CostRows, sum_of3}
use Rattle.seam_sums.specs.Fences.{fence32}
use Rattle.seam_find.specs.ByCosts.{least_sum, path_columns}
use Rattle.seam_find_kept.specs.Inner.Down.{fenced_sums}
use Rattle.seam_theory.proofs.Kept.{kept_sums}

-- A space as long as the seam, and one that has the sums of each row, n bytes each.
pub record SeamNeeded (n : ℕ) (z : Size) (w seam sums : ℕ) : Type 0 where
  pub seam_room : z.height ≤ seam
  pub room : z.height * ((w + 2) * n) ≤ sums

-- A column of row i + 1 whose sum is below `most`, and row i's sums, which are x.
pub record StepNeeded (k : ℕ → CostRows) (most : ℕ) (z : Size) (w i c : ℕ) (x : List ℕ) : Type 0 where
  pub inside : i + 1 < z.height
  pub column : c < w
  pub sums : x ≡ kept_sums most fence32 w k i
  pub low : sum_of3 (fenced_sums k w i) (k (i + 1)) c < most

-- The same where the sums are whatever isn't above a fence.
pub record WayNeeded (z : Size) (w i c : ℕ) (x : List ℕ) : Type 0 where
  pub inside : i + 1 < z.height
  pub column : c < w
  pub long : length x ≡ w + 2
  pub small : (n : ℕ) → get_or x n 0 ≤ fence32

-- Whether the cheapest path costs less than `most`; where it does, it is in the front of the seam's space.
pub record ByGiven (most : ℕ) (z : Size) (w : ℕ) (k : ℕ → CostRows) (seam : List ℕ) (answer : Bool) (seam' : List ℕ) : Type 0 where
  pub told : answer ≡ ltb (least_sum fence32 w z.height k) most
  pub found : answer ≡ true → seam' ≡ path_columns fence32 w z.height k ++ drop z.height seam
  pub seam_left : answer ≡ false → seam' ≡ seam
