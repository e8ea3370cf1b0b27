-- What a layer above knows of a row's energies, and of its steps' costs, where nothing is refused.
use mathlib.Core.Path.{◌≡◌, refl, sym, ap, ◌∙◌}
use mathlib.Core.Bool.{◌||◌}
use mathlib.Core.List.{List, [], ◌∷◌, ◌++◌, append-nil}
use Prim.Native.Nat.{ℕ, ◌≤◌, ◌<◌}
use lib.Dec.{leb, ltb}
use borrow.Author.Tests.{lt-leb, le-ltb}
use native.Mathlib.Nat.{le_of_eq}
use lib.ListN.{length, drop, drop_of_length-le}
use Rattle.pictures.specs.declared.sizes.Size.{Size}
use Rattle.pictures.specs.declared.refusals.Refusal.{Refusal}
use Rattle.std.specs.Prelude.{Result}
use Rattle.pictures.specs.Refusals.{◌when◌, given, refusal, served}
use Rattle.pictures.specs.Pictures.{size_rules, picture}
use Rattle.energy.specs.declared.methods.Method.{Method}
use Rattle.energy.specs.Energy.{energies, left_costs, right_costs, EnergiesGiven, StepCostsGiven}
use Rattle.pictures.proofs.Rules.{served-first}

-- A row of a picture of its size, and room for it: the energies stand at the front of the space.
pub energies-served : (b : List ℕ) (z : Size) (how : Method) (r : ℕ) (out out' : List ℕ) (v : Result (Unit {0}) Refusal) → EnergiesGiven b z how r out v out'
    → refusal (size_rules z (length b)) ≡ 0 → r < z.height → z.width ≤ length out
    → out' ≡ energies how z.width z.height (picture z b) r ++ drop z.width out
energies-served b z how r out out' v g s h l =
    let more = 4 when leb z.height r ∷ 8 when ltb (length out) z.width ∷ [] in
    let none : refusal (4 when leb z.height r ∷ 8 when ltb (length out) z.width ∷ []) ≡ 0 = simp (lt-leb _ _ h, le-ltb _ _ l) in
    g.out_given
    ∙ ap (λ n. served n (energies how z.width z.height (picture z b) r ++ drop z.width out) out)
    (g.number ∙ served-first (size_rules z (length b)) more refl s ∙ none)

-- The same of the three costs: each row fills its space.
pub record StepsServed (b : List ℕ) (z : Size) (how : Method) (r : ℕ) (left' up' right' : List ℕ) : Type 0 where
  pub left : left' ≡ left_costs how z.width z.height (picture z b) r
  pub up : up' ≡ energies how z.width z.height (picture z b) r
  pub right : right' ≡ right_costs how z.width z.height (picture z b) r

pub steps-served : (b : List ℕ) (z : Size) (how : Method) (r : ℕ) (left up right left' up' right' : List ℕ) (v : Result (Unit {0}) Refusal)
    → StepCostsGiven b z how r left up right v left' up' right'
    → refusal (size_rules z (length b)) ≡ 0 → r < z.height → length left ≡ z.width → length up ≡ z.width → length right ≡ z.width
    → StepsServed b z how r left' up' right'
steps-served b z how r left up right left' up' right' v g s h l m n =
    record {
      left = g.left_given ∙ filled (left_costs how z.width z.height (picture z b) r) left l;
      up = g.up_given ∙ filled (energies how z.width z.height (picture z b) r) up m;
      right = g.right_given ∙ filled (right_costs how z.width z.height (picture z b) r) right n;
    }
  where
    rest : refusal (4 when leb z.height r ∷ 8 when (ltb (length left) z.width || (ltb (length up) z.width || ltb (length right) z.width)) ∷ []) ≡ 0
    rest = simp (lt-leb _ _ h, le-ltb _ _ (le_of_eq (sym l)), le-ltb _ _ (le_of_eq (sym m)), le-ltb _ _ (le_of_eq (sym n)))

    none : given v ≡ 0
    none = g.number ∙ served-first (size_rules z (length b)) (4 when leb z.height r ∷ 8 when (ltb (length left) z.width || (ltb (length up) z.width || ltb (length right) z.width)) ∷ []) refl s ∙ rest

    filled : (row out : List ℕ) → length out ≡ z.width → served (given v) (row ++ drop z.width out) out ≡ row
    filled row out e =
        ap (λ n. served n (row ++ drop z.width out) out) none
        ∙ ap (row ++◌) (drop_of_length-le out (le_of_eq e))
        ∙ append-nil row
