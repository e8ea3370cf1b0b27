-- What a layer above knows of closing up where nothing is refused.
use mathlib.Core.Path.{◌≡◌, refl, ap, ◌∙◌}
use mathlib.Core.Bool.{not}
use Rattle.std.specs.Prelude.{Result}
use mathlib.Core.List.{List, [], ◌∷◌, ◌++◌}
use Prim.Native.Nat.{ℕ, ◌*◌, ◌<◌}
use native.Mathlib.Omega.{arith}
use lib.Dec.{eqb}
use borrow.Author.Tests.{eq-eqb, ne_eqb}
use lib.ListN.{length, replicate}
use Rattle.grids.specs.Each.{Each}
use Rattle.grids.specs.Cut.{cut}
use Rattle.grids.proofs.Shapes.{each-length}
use Rattle.pictures.specs.declared.sizes.Size.{Size}
use Rattle.pictures.specs.declared.refusals.Refusal.{Refusal}
use Rattle.pictures.specs.Refusals.{◌when◌, refusal, served}
use Rattle.pictures.specs.Pictures.{pixel_bytes, size_rules, picture, bytes}
use Rattle.pictures.proofs.Rules.{served-first}
use Rattle.seam_bounds.specs.Moves.{outside}
use Rattle.seam_bounds.proofs.Moving.{each_inside}
use Rattle.seam_close.specs.Closing.{CloseGiven}

-- A picture of its size with more than one column, and a seam inside it: the picture left stands at the front.
pub close_served : (b : List ℕ) (z : Size) (s b' : List ℕ) (v : Result (Unit {0}) Refusal) → CloseGiven b z s v b'
    → refusal (size_rules z (length b)) ≡ 0 → Each (λ c. c < z.width) z.height s → 1 < z.width
    → b' ≡ bytes z.kind (cut s (picture z b)) ++ replicate (z.height * pixel_bytes z.kind) 0
close_served b z s b' v g e columns wide =
    let rules = 4 when not (eqb (length s) z.height) ∷ 10 when outside z.width s ∷ 13 when eqb z.width 1 ∷ [] in
    let two : z.width ≡ 1 → ⊥ = λ one. omega arith in
    let none : refusal (4 when not (eqb (length s) z.height) ∷ 10 when outside z.width s ∷ 13 when eqb z.width 1 ∷ []) ≡ 0 = simp (eq-eqb _ _ (each-length columns), each_inside columns, ne_eqb _ _ two) in
    g.picture_left
    ∙ ap (λ n. served n (bytes z.kind (cut s (picture z b)) ++ replicate (z.height * pixel_bytes z.kind) 0) b)
    (g.number ∙ served-first (size_rules z (length b)) rules refl e ∙ none)
