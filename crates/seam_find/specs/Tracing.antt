-- The way back from the last row to the first, by the ways.
use Rattle.std.specs.Prelude.{Bool, cond, ◌&&◌, List, ◌++◌, ℕ, ◌-◌, ◌*◌, leb, ltb, eqb, length, drop}
use Rattle.pictures.specs.Pictures.{largest_side}
use Rattle.seam_theory.specs.Sums.{columns_to}

-- Whether a path can be traced back from a column of the last row: at least one row, sides within the limit, a column of that
-- row, a way for each column of every row but the first, and a space as long as the path.
unfoldable pub traceable : ℕ → ℕ → ℕ → ℕ → ℕ → Bool
traceable ways w height column seam =
    leb 1 height && (leb height largest_side && (leb w largest_side && (ltb column w && (leb height seam && eqb ways ((height - 1) * w)))))

-- The path at the front of the seam's space; where there is none, the space as it was.
abbrev pub traced : List ℕ → ℕ → ℕ → ℕ → List ℕ → List ℕ
traced ways w height column seam =
    cond (traceable (length ways) w height column (length seam)) (columns_to ways w (height - 1) column ++ drop height seam) seam
