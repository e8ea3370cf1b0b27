-- Finding the seam of a picture by costs that are kept in planes of numbers.
use Rattle.std.specs.Prelude.{◌≡◌, Bool, false, cond, ◌&&◌, List, [], ◌++◌, ℕ, ◌+◌, ◌*◌, ◌≤◌, ◌<◌, ltb, get_or, drop}
use Rattle.pictures.specs.declared.sizes.Size.{Size}
use Rattle.pictures.specs.Refusals.{refusal}
use Rattle.pictures.specs.Pictures.{side_rules}
use Rattle.pictures.specs.Numbers.{largest_number}
use Rattle.energy.specs.declared.methods.EnergyRule.{EnergyRule}
use Rattle.energy.specs.Energy.{one_cost}
use Rattle.seam_theory.specs.Sums.{CostRows, alike_rows}
use Rattle.seam_sums.specs.Fences.{fence32}
use Rattle.seam_find.specs.ByCosts.{least_sum, path_columns}
use Rattle.seam_planes.specs.Planes.{fronts, numbers_of, plane_bytes}

-- The costs of row i, of the w columns that are left of a picture of this size at first: by a rule of one cost all stand in the first
-- plane, else those of coming from straight above, from the left and from the right in three.
abbrev pub costs_in : EnergyRule → Size → ℕ → List ℕ → List ℕ → List ℕ → ℕ → CostRows
costs_in rule z w up left right i =
    let row : List ℕ → List ℕ = λ plane. get_or (fronts w (numbers_of z.width z.height plane)) i [] in
    cond (one_cost rule) (alike_rows (row up)) (record { left = row left; up = row up; right = row right })

-- The bytes of the sums of a row of w columns: four each, with a fence at either side.
abbrev pub sums_bytes : ℕ → ℕ
sums_bytes w = 4 * (w + 2)

-- Planes of a picture of this size at first of which w columns are left, a space for the sums of each row, and a space for the seam.
pub record FindAsked (z : Size) (w : ℕ) (one : Bool) (up left right sums seam : ℕ) : Type 0 where
  pub sides : refusal (side_rules z) ≡ 0
  pub some : 0 < w
  pub within : w ≤ z.width
  pub up_long : up ≡ plane_bytes z
  pub left_long : one ≡ false → left ≡ plane_bytes z
  pub right_long : one ≡ false → right ≡ plane_bytes z
  pub room : z.height * sums_bytes w ≤ sums
  pub seam_room : z.height ≤ seam

-- The cheapest path in the front of the seam's space, and whether sums of 16 bits were asked for and were enough: whether it costs less than
-- the largest of them.
pub record FindGiven (z : Size) (w : ℕ) (k : ℕ → CostRows) (narrow : Bool) (seam : List ℕ) (answer : Bool) (seam' : List ℕ) : Type 0 where
  pub enough : answer ≡ (narrow && ltb (least_sum fence32 w z.height k) largest_number)
  pub seam_given : seam' ≡ path_columns fence32 w z.height k ++ drop z.height seam
