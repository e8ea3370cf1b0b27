-- What is known of the seam found at the front of a space where nothing is refused.
use Rattle.pictures.specs.declared.refusals.Refusal.{Refusal}
use Rattle.std.specs.Prelude.{Result}
use mathlib.Core.Path.{◌≡◌, refl, ◌∙◌}
use mathlib.Core.List.{List, [], ◌∷◌, ◌++◌}
use Prim.Native.Nat.{ℕ, ◌+◌, ◌≤◌}
use lib.Dec.{ltb}
use borrow.Author.Tests.{le-ltb}
use lib.ListN.{length, take, drop, replicate}
use Rattle.pictures.specs.declared.sizes.Size.{Size}
use Rattle.pictures.specs.Refusals.{◌when◌, refusal}
use Rattle.pictures.specs.Pictures.{side_rules, picture_bytes, picture, pixels}
use Rattle.pictures.proofs.Rules.{served-first}
use Rattle.energy.specs.declared.methods.Method.{Method}
use Rattle.seam_theory.specs.PictureSeams.{seam_of, cost_of}
use Rattle.seam_rules.specs.Answers.{found_number, found_cost}
use Rattle.seam_find.specs.Finding.{FindInGiven}

pub record FoundThere (space : List ℕ) (z : Size) (how : Method) (seam : List ℕ) (answer : Result ℕ Refusal) (space' seam' : List ℕ) : Type 0 where
  pub number : found_number answer ≡ 0
  pub cost : found_cost answer ≡ cost_of how z.width z.height (picture z (take (picture_bytes z) space))
  pub space_left : space' ≡ take (picture_bytes z) space ++ (replicate (pixels z) 0 ++ drop (picture_bytes z + pixels z) space)
  pub seam_given : seam' ≡ seam_of how z.width z.height (picture z (take (picture_bytes z) space)) ++ drop z.height seam

pub find_served : (space : List ℕ) (z : Size) (how : Method) (seam : List ℕ) (answer : Result ℕ Refusal) (space' seam' : List ℕ) → FindInGiven space z how seam answer space' seam'
    → refusal (side_rules z) ≡ 0 → z.height ≤ length seam → picture_bytes z + pixels z ≤ length space → FoundThere space z how seam answer space' seam'
find_served space z how seam answer space' seam' g sides room long =
    record {
      number = n;
      cost = rw n at g.cost;
      space_left = rw n at g.space_left;
      seam_given = rw n at g.seam_given;
    }
  where
    none : refusal (8 when ltb (length seam) z.height ∷ 8 when ltb (length space) (picture_bytes z + pixels z) ∷ []) ≡ 0
    none = simp (le-ltb _ _ room, le-ltb _ _ long)

    n : found_number answer ≡ 0
    n = g.number ∙ served-first (side_rules z) (8 when ltb (length seam) z.height ∷ 8 when ltb (length space) (picture_bytes z + pixels z) ∷ []) refl sides ∙ none
