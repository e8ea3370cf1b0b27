-- A recorded map beside the one built. What private functions ask and promise; no public promise cites it.
use Rattle.std.specs.Prelude.{◌≡◌, false, cond, List, ℕ, take, drop}
use Rattle.grids.specs.Rows.{rows_of}
use Rattle.seam_theory.specs.Paths.{near}
use Rattle.pictures.specs.declared.sizes.Size.{Size}
use Rattle.pictures.specs.Refusals.{refusal}
use Rattle.map_theory.specs.Judged.{same, connected}
use Rattle.map_rules.specs.Spaces.{map_bytes, recorded_at, map_space_rules}
use Rattle.pictures.specs.Numbers.{numbers_in}

-- The number that a recorded map, which isn't refused by 9, is given where `built` is the one that it should be.
abbrev pub beside_built : List ℕ → List ℕ → ℕ → ℕ → ℕ → ℕ
beside_built recorded built w h k =
    cond (same (numbers_in recorded) (numbers_in built)) 0 (cond (connected (near false) w k (rows_of w h (numbers_in recorded))) 11 10)

-- A work space that nothing up to 8 refuses.
pub record JudgeNeeded (z : Size) (depth space : ℕ) : Type 0 where
  pub served : refusal (map_space_rules z depth space) ≡ 0

-- The map recorded in it, by its bytes.
pub record RecordedIs (z : Size) (depth : ℕ) (space bytes : List ℕ) (w h k : ℕ) : Type 0 where
  pub bytes_are : bytes ≡ take (map_bytes z) (drop (recorded_at z) space)
  pub width_is : w ≡ z.width
  pub height_is : h ≡ z.height
  pub depth_is : k ≡ depth
