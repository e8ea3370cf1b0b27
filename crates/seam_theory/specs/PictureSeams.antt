-- "Energy and seams": the seam found in a picture, without marks and with them.
use Rattle.std.specs.Prelude.{Bool, true, false, cond, List, [], reverse, ℕ, eqb, get_or}
use Rattle.std.proofs.Math.Option
use Rattle.std.proofs.Math.Option.{Option, none, some}
use Rattle.seam_theory.specs.Paths.{paths, cost, nearby, along}
use Rattle.seam_theory.specs.Best.{least}
use Rattle.seam_theory.specs.Seams.{cheapest_allowed}
use Rattle.pictures.specs.Pictures.{Picture}
use Rattle.energy.specs.declared.methods.Method.{Method}
use Rattle.energy.specs.Methods.{wrap_of}
use Rattle.energy.specs.Energy.{energy, step_of}

-- What a path costs, by a method, that goes through a picture of w columns and h rows: the energy of its pixel in row 0 (by forward C_U), and
-- in every other row what coming to its pixel costs from the one above. A list of columns goes from the bottom row upward.
abbrev pub path_cost : Method → ℕ → ℕ → Picture → List ℕ → ℕ
path_cost how w h p = cost (energy how w h p 0) (step_of how w h p)

-- "The seam found is the cheapest. Among equals it is the one whose columns, read from the bottom row upward, come first in
-- dictionary order": the first of the cheapest of all connected paths through w columns and h rows, from the bottom row.
abbrev pub seam_up : Method → ℕ → ℕ → Picture → Option (List ℕ)
seam_up how w h p = least (path_cost how w h p) (paths (nearby (wrap_of how) w) w h)

-- "Elsewhere a seam's columns are listed from the top row."
unfoldable pub seam_of : Method → ℕ → ℕ → Picture → List ℕ
seam_of how w h p = reverse (Option.get_or (seam_up how w h p) [])

-- "Its cost is the sum of its energies": a law (`cost-energies`) by edge and by flat, since coming to a pixel costs its energy from every
-- column.
unfoldable pub cost_of : Method → ℕ → ℕ → Picture → ℕ
cost_of how w h p = path_cost how w h p (Option.get_or (seam_up how w h p) [])

-- The mark of the pixel in row r and column c: 1 protected, 2 to be removed, any other number plain.
abbrev pub mark_at : List (List ℕ) → ℕ → ℕ → ℕ
mark_at m r c = get_or (get_or m r []) c 0

-- 1 where the pixel has the mark v, else 0.
abbrev pub is_mark : ℕ → List (List ℕ) → ℕ → ℕ → ℕ
is_mark v m r c = cond (eqb (mark_at m r c) v) 1 0

-- "With marks, a seam may not touch a protected pixel. Among those left, first the most pixels marked 2, then the least
-- cost, then the order above."
abbrev pub marked_up : Method → ℕ → ℕ → Picture → List (List ℕ) → Option (List ℕ)
marked_up how w h p m = cheapest_allowed (along (is_mark 1 m)) (along (is_mark 2 m)) (path_cost how w h p) (paths (nearby (wrap_of how) w) w h)

-- Its columns from the top row, and its cost.
unfoldable pub marked_seam_of : Method → ℕ → ℕ → Picture → List (List ℕ) → List ℕ
marked_seam_of how w h p m = reverse (Option.get_or (marked_up how w h p m) [])

unfoldable pub marked_cost_of : Method → ℕ → ℕ → Picture → List (List ℕ) → ℕ
marked_cost_of how w h p m = path_cost how w h p (Option.get_or (marked_up how w h p m) [])

-- Whether there is none: every path meets a protected pixel.
abbrev pub is_none : {A : Type 0} → Option A → Bool
is_none none = true
is_none (some a) = false
