-- Where closing up is not refused, its answer is Ok.
use mathlib.Core.Path.{◌≡◌, refl, ◌∙◌}
use mathlib.Core.Bool.{not}
use mathlib.Core.List.{List, [], ◌∷◌}
use Prim.Native.Nat.{ℕ, ◌<◌}
use native.Mathlib.Omega.{arith}
use lib.Dec.{eqb}
use borrow.Author.Tests.{eq-eqb, ne_eqb}
use lib.ListN.{length}
use Rattle.std.specs.Prelude.{Result, Ok, Err, IsOk}
use Rattle.grids.specs.Each.{Each}
use Rattle.grids.proofs.Shapes.{each-length}
use Rattle.pictures.specs.declared.sizes.Size.{Size}
use Rattle.pictures.specs.declared.refusals.Refusal.{Refusal}
use Rattle.pictures.specs.Refusals.{◌when◌, given, refusal}
use Rattle.pictures.specs.Pictures.{size_rules}
use Rattle.pictures.proofs.Rules.{served-first, number-some}
use Rattle.seam_bounds.specs.Moves.{outside}
use Rattle.seam_bounds.proofs.Moving.{each_inside}
use Rattle.seam_close.specs.Closing.{CloseGiven}

-- An answer whose number is 0.
pub is_served : {A : Type 0} (answer : Result A Refusal) → given answer ≡ 0 → IsOk answer
is_served (Ok x) e = refl
is_served (Err why) e = absurd (omega (arith, number-some why, e))

-- A picture of its size with more than one column, and a seam inside it.
pub close_up_ok : (b : List ℕ) (z : Size) (s b' : List ℕ) (v : Result Unit Refusal) → CloseGiven b z s v b'
    → refusal (size_rules z (length b)) ≡ 0 → Each (λ c. c < z.width) z.height s → 1 < z.width → IsOk v
close_up_ok b z s b' v g e columns wide =
    let rules = 4 when not (eqb (length s) z.height) ∷ 10 when outside z.width s ∷ 13 when eqb z.width 1 ∷ [] in
    let two : z.width ≡ 1 → ⊥ = λ one. omega arith in
    let none : refusal (4 when not (eqb (length s) z.height) ∷ 10 when outside z.width s ∷ 13 when eqb z.width 1 ∷ []) ≡ 0 = simp (eq-eqb _ _ (each-length columns), each_inside columns, ne_eqb _ _ two) in
    is_served v (g.number ∙ served-first (size_rules z (length b)) rules refl e ∙ none)
