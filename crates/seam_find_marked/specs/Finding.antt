-- Finding the seam of a picture with marks that stands at the front of a space: when it is refused, and what it gives.
use Rattle.pictures.specs.declared.refusals.Refusal.{Refusal}
use Rattle.std.specs.Prelude.{◌≡◌, Bool, true, List, [], ◌∷◌, ◌++◌, ℕ, ◌+◌, length, take, drop, replicate, Result}
use Rattle.pictures.specs.declared.sizes.Size.{Size}
use Rattle.pictures.specs.Refusals.{Rule, ◌when◌, refusal, served, worked}
use Rattle.pictures.specs.Pictures.{picture_bytes, pixels, picture_in, marks_in}
use Rattle.energy.specs.declared.methods.Method.{Method}
use Rattle.seam_rules.specs.Answers.{found_number, found_cost}
use Rattle.seam_bounds.specs.Spaces.{find_space_rules}
use Rattle.seam_theory.specs.PictureSeams.{marked_up, marked_seam_of, marked_cost_of, is_none}

-- Refused by 2, 3 and 8 as without marks, where the space also has the marks; and by 12 where no seam is allowed.
abbrev pub find_marked_in_rules : Size → ℕ → ℕ → Bool → List Rule
find_marked_in_rules z space seam blocked = find_space_rules z true space seam ++ (12 when blocked ∷ [])

-- The number, the seam of the picture at the front by the marks after it and its cost, and what is left: picture and marks, zeros for its pixels
-- after them, the rest as it was.
pub record FindMarkedInGiven (space : List ℕ) (z : Size) (how : Method) (seam : List ℕ) (answer : Result ℕ Refusal) (space' seam' : List ℕ) : Type 0 where
  pub number :
      found_number answer ≡ refusal (find_marked_in_rules z (length space) (length seam)
      (is_none (marked_up how z.width z.height (picture_in z space) (marks_in z space))))
  pub cost : found_cost answer ≡ served (found_number answer) (marked_cost_of how z.width z.height (picture_in z space) (marks_in z space)) 0
  pub space_left :
      space' ≡ worked (found_number answer)
      (take (picture_bytes z + pixels z) space
      ++ (replicate (pixels z) 0 ++ drop (picture_bytes z + (pixels z + pixels z)) space))
      space
  pub seam_given :
      seam' ≡ served (found_number answer)
      (marked_seam_of how z.width z.height (picture_in z space) (marks_in z space) ++ drop z.height seam)
      seam
