-- What the private functions of this crate ask and promise, in terms of rows of bytes. No public promise cites it.
use Rattle.std.specs.Prelude.{◌≡◌, Bool, cond, ◌&&◌, List, [], ℕ, ◌+◌, ◌-◌, ◌%◌, ◌≤◌, leb, ltb, set, get_or}
use Rattle.pictures.specs.declared.sizes.Size.{Size}
use Rattle.pictures.specs.Refusals.{refusal}
use Rattle.pictures.specs.Pictures.{picture, picture_bytes, side_rules}
use Rattle.energy.specs.declared.methods.Method.{Method}
use Rattle.energy.specs.declared.pixels.Step.{Step}
use Rattle.energy.specs.Energy.{costs_at}
use Rattle.energy.specs.Pixels.{cost_to}
use Rattle.seam_planes.specs.Planes.{plane_bytes}

-- A number, as two bytes hold it, put at column c of a row of numbers, where there is such a column.
abbrev pub put_where : Bool → ℕ → ℕ → List ℕ → List ℕ
put_where there c v row = cond there (set row c (v % 65536)) row

-- A row of which w numbers count, with a number put before column c and one at it.
abbrev pub refreshed_row : ℕ → ℕ → ℕ → ℕ → List ℕ → List ℕ
refreshed_row w c before here row = put_where (ltb c w) c here (put_where (ltb 0 c && leb c w) (c - 1) before row)

-- The same, where the numbers are what a function says of their columns.
abbrev pub refreshed_by : ℕ → ℕ → (ℕ → ℕ) → List ℕ → List ℕ
refreshed_by w c fresh row = refreshed_row w c (fresh (c - 1)) (fresh c) row

-- What coming to each pixel costs in a picture in a buffer, of which w columns are left.
abbrev pub fresh_costs : Method → Step → Size → ℕ → List ℕ → ℕ → ℕ → ℕ
fresh_costs how from z w b r c = cost_to from (costs_at how w z.height (picture z b) r c)

-- Row r of a plane of numbers, with the costs put into it beside the seam.
abbrev pub refreshed_at : Method → Step → Size → ℕ → List ℕ → List ℕ → List (List ℕ) → ℕ → List ℕ
refreshed_at how from z w b s k r = refreshed_by w (get_or s r 0) (fresh_costs how from z w b r) (get_or k r [])

-- A picture of which w columns are left, a column of a seam for each of its rows, and a plane for its costs.
pub record RefreshNeeded (z : Size) (w columns picture plane : ℕ) : Type 0 where
  pub sides : refusal (side_rules z) ≡ 0
  pub left : w + 1 ≤ z.width
  pub seam : columns ≡ z.height
  pub long : picture ≡ picture_bytes z
  pub room : plane ≡ plane_bytes z
