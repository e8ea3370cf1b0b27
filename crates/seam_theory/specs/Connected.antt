-- Columns that are connected, and what a path is, said of a list of columns alone.
use Rattle.std.specs.Prelude.{◌≡◌, Bool, true, ◌&&◌, ℕ, ◌<◌, length}
use mathlib.Core.List.{List, [], ◌∷◌, Memᴰ}
use Rattle.seam_theory.specs.Paths.{near}

-- The columns of neighbouring rows pass the test.
abbrev pub linked : (ℕ → ℕ → Bool) → List ℕ → Bool
linked test [] = true
linked test (c ∷ []) = true
linked test (c ∷ d ∷ s) = test c d && linked test (d ∷ s)

-- "One column for each row, neighbouring rows differing by at most 1": a path through w columns and h rows. Where the last
-- column is joined to the first, it may also step between these two.
pub record IsPath (wrap : Bool) (w h : ℕ) (p : List ℕ) : Type 0 where
  pub some : 0 < h
  pub size : length p ≡ h
  pub within : (c : ℕ) → Memᴰ c p → c < w
  pub connected : linked (near wrap w) p ≡ true
