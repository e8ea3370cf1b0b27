-- What closing up a seam gives.
use Rattle.std.specs.Prelude.{◌≡◌, Result, List, ◌++◌, ℕ, ◌*◌, length, replicate}
use Rattle.grids.specs.Cut.{cut}
use Rattle.pictures.specs.declared.sizes.Size.{Size}
use Rattle.pictures.specs.declared.refusals.Refusal.{Refusal}
use Rattle.pictures.specs.Refusals.{Rule, given, refusal, served}
use Rattle.pictures.specs.Pictures.{pixel_bytes, picture, bytes}
use Rattle.seam_bounds.specs.Moves.{close_length_rules, close_column_rules, outside}

-- When closing up is refused: as the picture is, where the seam hasn't one column for each row, where one of them is
-- outside the picture, and at the last column.
abbrev pub close_rules : Size → ℕ → List ℕ → List Rule
close_rules z bytes s = close_length_rules z bytes (length s) ++ close_column_rules z.width (outside z.width s)

-- What closing up gives: the number, and the picture. "The rows then lie packed at the front of the lent picture and the
-- freed bytes are 0."
pub record CloseGiven (b : List ℕ) (z : Size) (s : List ℕ) (answer : Result (Unit {0}) Refusal) (b' : List ℕ) : Type 0 where
  pub number : given answer ≡ refusal (close_rules z (length b) s)
  pub picture_left : b' ≡ served (given answer) (bytes z.kind (cut s (picture z b)) ++ replicate (z.height * pixel_bytes z.kind) 0) b
