-- All rows of sums, from the top. What private functions ask and promise; no public promise cites it.
use Rattle.std.specs.Prelude.{◌≡◌, Bool, false, List, ℕ, ◌+◌, ◌-◌, ◌*◌, ◌≤◌, ◌<◌, length, get_or}
use Rattle.grids.specs.Rows.{row_at}
use Rattle.pictures.specs.declared.sizes.Size.{Size}
use Rattle.pictures.specs.Refusals.{refusal}
use Rattle.pictures.specs.Pictures.{side_rules}
use Rattle.seam_theory.specs.Sums.{CostRows, fenced, sums_down, least_to}
use Rattle.seam_theory.proofs.Capped.{capped}
use Rattle.seam_theory.proofs.Kept.{kept_sums}
use Rattle.seam_sums.specs.Fences.{fence32}
use Rattle.seam_planes.specs.Planes.{plane_bytes}
use Rattle.seam_find.specs.ByCosts.{last_sums}

-- Planes of a picture of this size at first of which w columns are left.
pub record PlanesNeeded (z : Size) (w : ℕ) (one : Bool) (up : List ℕ) (left right : ℕ) : Type 0 where
  pub sides : refusal (side_rules z) ≡ 0
  pub some : 0 < w
  pub within : w ≤ z.width
  pub up_long : length up ≡ plane_bytes z
  pub bytes : (i : ℕ) → get_or up i 0 ≤ 255
  pub left_long : one ≡ false → left ≡ plane_bytes z
  pub right_long : one ≡ false → right ≡ plane_bytes z

-- Room for the rows of sums, n bytes each.
pub record SpaceNeeded (n : ℕ) (z : Size) (w sums : ℕ) : Type 0 where
  pub room : z.height * ((w + 2) * n) ≤ sums

-- The sums of row i between their fences, from the costs k of each row.
abbrev pub fenced_sums : (ℕ → CostRows) → ℕ → ℕ → List ℕ
fenced_sums k w i = fenced false fence32 w (sums_down false fence32 w k i)

-- Row i, which there is, is to be worked out from the sums x of the row above it with its fences, none of them above a fence.
pub record RowNeeded (z : Size) (w i : ℕ) (x : List ℕ) (next : ℕ) : Type 0 where
  pub inside : i < z.height
  pub long : length x ≡ w + 2
  pub small : (c : ℕ) → get_or x c 0 ≤ fence32
  pub next_long : next ≡ w

-- Sums that are kept in numbers of n bytes up to `most`, which `held` reads.
module _ (n most : ℕ) (held : List ℕ → List ℕ) (k : ℕ → CostRows) (z : Size) (w : ℕ) where
  -- The rows above row i are stored, and there is room for all.
  pub record RowsAbove (i : ℕ) (sums : List ℕ) : Type 0 where
    pub later : 0 < i
    pub within : i ≤ z.height
    pub room : z.height * ((w + 2) * n) ≤ length sums
    pub rows : (r : ℕ) → r < i → held (row_at ((w + 2) * n) r sums) ≡ kept_sums most fence32 w k r

  -- All rows are stored, and the first of the least sums of the last row is given, as it is found of those that are kept.
  pub record RowsGiven (sums : List ℕ) (column : ℕ) : Type 0 where
    pub rows : (r : ℕ) → r < z.height → held (row_at ((w + 2) * n) r sums) ≡ kept_sums most fence32 w k r
    pub column_is : column ≡ least_to (capped most (last_sums fence32 w z.height k)) (w - 1)
