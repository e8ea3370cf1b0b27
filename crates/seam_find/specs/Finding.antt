-- Finding the seam of a picture that stands at the front of a space: when it is refused, and what it gives.
use Rattle.pictures.specs.declared.refusals.Refusal.{Refusal}
use Rattle.std.specs.Prelude.{◌≡◌, false, List, ◌++◌, ℕ, ◌+◌, length, take, drop, replicate, Result}
use Rattle.pictures.specs.declared.sizes.Size.{Size}
use Rattle.pictures.specs.Refusals.{Rule, refusal, served}
use Rattle.pictures.specs.Pictures.{picture_bytes, pixels, picture_in}
use Rattle.energy.specs.declared.methods.Method.{Method}
use Rattle.seam_rules.specs.Answers.{found_number, found_cost}
use Rattle.seam_bounds.specs.Spaces.{find_space_rules}
use Rattle.seam_theory.specs.PictureSeams.{seam_of, cost_of}

-- Refused by 2 and 3, and by 8 where the seam's space is shorter than the seam, or the space than the picture and a byte
-- for each of its pixels.
abbrev pub find_in_rules : Size → ℕ → ℕ → List Rule
find_in_rules z space seam = find_space_rules z false space seam

-- The number, the seam of the picture at the front and its cost, and what is left: the picture, zeros for its pixels after it, the rest as it was.
pub record FindInGiven (space : List ℕ) (z : Size) (how : Method) (seam : List ℕ) (answer : Result ℕ Refusal) (space' seam' : List ℕ) : Type 0 where
  pub number : found_number answer ≡ refusal (find_in_rules z (length space) (length seam))
  pub cost : found_cost answer ≡ served (found_number answer) (cost_of how z.width z.height (picture_in z space)) 0
  pub space_left :
      space' ≡ served (found_number answer)
      (take (picture_bytes z) space ++ (replicate (pixels z) 0 ++ drop (picture_bytes z + pixels z) space))
      space
  pub seam_given :
      seam' ≡ served (found_number answer)
      (seam_of how z.width z.height (picture_in z space) ++ drop z.height seam)
      seam
