-- A way of choosing a seam, and what is asked of it: everything that a map needs to know of energies and paths.
use Rattle.std.specs.Prelude.{◌≡◌, Bool, true, List, ℕ, ◌<◌}
use Rattle.grids.specs.Each.{Each, Grid}
use Rattle.seam_theory.specs.Connected.{linked}

-- From width, height and picture to the columns of a seam, from the top row.
abbrev pub Choice : Type 0 → Type 0
Choice A = ℕ → ℕ → List (List A) → List ℕ

-- "A vertical seam has one column for each row, neighbouring rows differing by at most 1": one column below the width for
-- each row, and connected. `near w c d`: at width w a seam may go from column c of a row to column d of the next.
pub record Chooses {A : Type 0} (near : ℕ → ℕ → ℕ → Bool) (choose : Choice A) : Type 0 where
  pub inside : (w h : ℕ) (p : List (List A)) → 0 < w → Grid w h p → Each (λ c. c < w) h (choose w h p)
  pub joined : (w h : ℕ) (p : List (List A)) → 0 < w → Grid w h p → linked (near w) (choose w h p) ≡ true
