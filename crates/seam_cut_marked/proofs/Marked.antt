-- What is known of the seam found by marks where nothing below 12 refuses it.
use Rattle.pictures.specs.declared.refusals.Refusal.{Refusal}
use Rattle.std.specs.Prelude.{Result}
use mathlib.Core.Path.{◌≡◌, refl, ap, ◌∙◌}
use mathlib.Core.Bool.{Bool, false, cond}
use mathlib.Core.Option.{Option, get_or, none, some}
use mathlib.Core.List.{List, [], ◌∷◌, ◌++◌, reverse}
use Prim.Native.Nat.{ℕ, ◌+◌, ◌≤◌, ◌<◌}
use native.Mathlib.Omega.{arith}
use lib.Dec.{ltb}
use borrow.Author.Tests.{le-ltb}
use lib.ListN.{length, take, drop, replicate}
use Rattle.grids.specs.Each.{Each}
use Rattle.grids.proofs.Shapes.{each-reverse}
use Rattle.pictures.specs.declared.sizes.Size.{Size}
use Rattle.pictures.specs.Refusals.{Rule, ◌when◌, refusal, served}
use Rattle.pictures.specs.Pictures.{Picture, side_rules, picture_bytes, pixels, picture_in, marks_in}
use Rattle.pictures.proofs.Rules.{served-first}
use Rattle.energy.specs.declared.methods.Method.{Method}
use Rattle.energy.specs.Methods.{wrap_of}
use Rattle.seam_rules.specs.declared.answers.Axis.{Axis}
use Rattle.seam_rules.specs.Answers.{found_number, found_cost}
use Rattle.seam_rules.specs.Axes.{turned_size}
use Rattle.seam_theory.specs.PictureSeams.{marked_up, marked_seam_of, marked_cost_of, is_none}
use Rattle.seam_theory.proofs.Characterised.{marked_is}
use Rattle.seam_find.proofs.Worked.{worked-or}
use Rattle.seam_find_marked.specs.Finding.{FindMarkedInGiven}
use Rattle.seam_turn.specs.Axes.{turned}
use Rattle.seam_cut.proofs.Inside.{path_inside}
use Rattle.seam_cut_marked.specs.Axes.{marked_seam_along, blocked_along}

-- At the front of a space: a seam, or 12 where none is allowed.
pub record MarkedThere (space : List ℕ) (z : Size) (how : Method) (seam : List ℕ) (answer : Result ℕ Refusal) (space' seam' : List ℕ) : Type 0 where
  pub number : found_number answer ≡ cond (is_none (marked_up how z.width z.height (picture_in z space) (marks_in z space))) 12 0
  pub cost : found_cost answer ≡ served (found_number answer) (marked_cost_of how z.width z.height (picture_in z space) (marks_in z space)) 0
  pub seam_given : seam' ≡ served (found_number answer) (marked_seam_of how z.width z.height (picture_in z space) (marks_in z space) ++ drop z.height seam) seam
  pub left : space' ≡ take (picture_bytes z + pixels z) space ++ (replicate (pixels z) 0 ++ drop (picture_bytes z + (pixels z + pixels z)) space)

pub marked_served : (space : List ℕ) (z : Size) (how : Method) (seam : List ℕ) (answer : Result ℕ Refusal) (space' seam' : List ℕ) → FindMarkedInGiven space z how seam answer space' seam'
    → refusal (side_rules z) ≡ 0 → z.height ≤ length seam → picture_bytes z + (pixels z + pixels z) ≤ length space → MarkedThere space z how seam answer space' seam'
marked_served space z how seam answer space' seam' g sides room long =
    record {
      number = number_is;
      cost = g.cost;
      seam_given = g.seam_given;
      -- picture and marks are read, and only what comes after them is written
      left = g.space_left ∙ worked-or (found_number answer) _ space blocked number_is;
    }
  where
    blocked : Bool
    blocked = is_none (marked_up how z.width z.height (picture_in z space) (marks_in z space))

    rest : List Rule
    rest = 8 when ltb (length seam) z.height ∷ 8 when ltb (length space) (picture_bytes z + (pixels z + pixels z)) ∷ 12 when blocked ∷ []

    none : refusal (8 when ltb (length seam) z.height ∷ 8 when ltb (length space) (picture_bytes z + (pixels z + pixels z)) ∷ 12 when blocked ∷ []) ≡ cond blocked 12 0
    none = simp (le-ltb _ _ room, le-ltb _ _ long)

    number_is : found_number answer ≡ cond blocked 12 0
    number_is = g.number ∙ served-first (side_rules z) rest refl sides ∙ none

-- The seam lies inside the picture, where one is allowed.
marked_up_inside : (how : Method) (w h : ℕ) (p : Picture) (m : List (List ℕ)) (o : Option (List ℕ)) → marked_up how w h p m ≡ o → is_none o ≡ false → Each (λ c. c < w) h (reverse (get_or o []))
marked_up_inside how w h p m none e t = absurd (omega (arith, ap (λ k. cond {A = ℕ} k 0 1) t))
marked_up_inside how w h p m (some s) e t = each-reverse (path_inside (wrap_of how) w h s ((marked_is how w h p m s).0 e).path)

pub marked_inside : (how : Method) (x : Axis) (z : Size) (p : Picture) (m : List (List ℕ)) → blocked_along how x z p m ≡ false → Each (λ c. c < (turned_size x z).width) (turned_size x z).height (marked_seam_along how x z p m)
unfolding blocked_along marked_seam_along marked_seam_of
marked_inside how x z p m e =
    let q = turned x z.width p in
    let n = turned x z.width m in
    marked_up_inside how (turned_size x z).width (turned_size x z).height q n (marked_up how (turned_size x z).width (turned_size x z).height q n) refl e
