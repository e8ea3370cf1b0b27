-- The map recorded in a work space, judged for the picture at its front: when it is refused, and what it gives.
use Rattle.std.specs.Prelude.{◌≡◌, Result, List, ◌++◌, ℕ, length, take, drop, replicate}
use Rattle.grids.specs.Rows.{rows_of}
use Rattle.seam_theory.specs.Paths.{near}
use Rattle.pictures.specs.declared.sizes.Size.{Size}
use Rattle.pictures.specs.declared.refusals.Refusal.{Refusal}
use Rattle.pictures.specs.Refusals.{Rule, given, refusal, worked}
use Rattle.pictures.specs.Pictures.{Picture, picture_in}
use Rattle.energy.specs.declared.methods.Method.{Method}
use Rattle.energy.specs.Methods.{wrap_of}
use Rattle.map_theory.specs.Judged.{map_rules}
use Rattle.seam_theory.specs.PictureSeams.{seam_of}
use Rattle.pictures.specs.Numbers.{numbers_in}
use Rattle.map_rules.specs.Spaces.{map_bytes, recorded_at, map_space_rules}

-- The map recorded in a work space.
abbrev pub recorded_in : Size → List ℕ → List (List ℕ)
recorded_in z space = rows_of z.width z.height (numbers_in (take (map_bytes z) (drop (recorded_at z) space)))

-- 9, 10 and 11: a map judged for a picture, by a method.
abbrev pub recorded_rules : Size → Method → ℕ → Picture → List (List ℕ) → List Rule
recorded_rules z how depth p m = map_rules (near (wrap_of how)) (seam_of how) z.width z.height depth p m

-- Before them, what is refused of a work space for a map.
abbrev pub judge_rules : Size → Method → ℕ → List ℕ → List Rule
judge_rules z how depth space = map_space_rules z depth (length space) ++ recorded_rules z how depth (picture_in z space) (recorded_in z space)

-- The number, and the space: all 0 after success and after 9, 10 and 11, else as it was.
pub record JudgeInGiven (space : List ℕ) (z : Size) (how : Method) (depth : ℕ) (answer : Result (Unit {0}) Refusal) (space' : List ℕ) : Type 0 where
  pub number : given answer ≡ refusal (judge_rules z how depth space)
  pub space_left : space' ≡ worked (given answer) (replicate (length space) 0) space
