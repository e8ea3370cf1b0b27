-- What the theorems on object removal say: why it ended, what held before each cut, and the shape of what is left.
use Rattle.std.specs.Prelude.{◌≡◌, true, false, ℕ, ◌<◌}
use Rattle.grids.specs.Each.{Each, Grid}
use Rattle.seam_rules.specs.declared.answers.Ending.{Ending}
use Rattle.seam_rules.specs.declared.answers.Ending.TheVariants.{Done, Narrow, Spent, Blocked}
use Rattle.seam_objects.specs.Objects.{MarkedPicture, to_remove, no_seam, Removed}

-- Why a removal with b seams allowed ended.
abbrev pub Reason : Ending → ℕ → Removed → Type 0
Reason Done b r = to_remove r.left ≡ false
Reason Narrow b r = (to_remove r.left ≡ true) × (r.left.width ≡ 1)
Reason Spent b r = (to_remove r.left ≡ true) × ((r.left.width ≡ 1 → ⊥) × (r.count ≡ b))
Reason Blocked b r = (to_remove r.left ≡ true) × ((r.left.width ≡ 1 → ⊥) × ((r.count < b) × (no_seam r.left ≡ true)))

-- Before each of the cuts none of the endings applied.
pub record Due (s : MarkedPicture) : Type 0 where
  pub marked : to_remove s ≡ true
  pub wide : s.width ≡ 1 → ⊥
  pub allowed : no_seam s ≡ false

-- Pixels of ch samples, and marks of which none is over 2, in as many rows and columns as it says.
pub record LeftShaped (ch : ℕ) (s : MarkedPicture) : Type 0 where
  pub picture_of : Each (Grid ch s.width) s.height s.picture
  pub marks_of_each : Each (Each (λ v. v < 3) s.width) s.height s.marks
