-- What an answer says of the weight that it was given by.
use Rattle.std.specs.Prelude.{Result, Ok, Err}
use mathlib.Core.Path.{◌≡◌, refl, sym, ap, ◌∙◌}
use mathlib.Core.Logic.{⊎_elim}
use Rattle.grids.proofs.Orders.{le-or-lt}
use mathlib.Core.Bool.{Bool, true, false, cond}
use Prim.Native.Nat.{ℕ, ◌%◌, ◌≤◌, ◌<◌, min}
use native.Mathlib.Omega.{arith}
use lib.Dec.{leb}
use borrow.Author.Tests.{le-leb, leb-true, leb-false}
use Rattle.pictures.specs.declared.refusals.Refusal.{Refusal}
use Rattle.pictures.specs.Refusals.{number_of}
use Rattle.pictures.proofs.Rules.{number-some}
use Rattle.seam_rules.specs.Answers.{found_number, found_cost}
use Rattle.seam_sums.specs.Fences.{fence32}
use Rattle.seam_sums.specs.Weights.{kept, protected, FoundByGiven}

-- What a weight says is what it says as it is kept in a sum.
pub meant_kept : (weight kept_as : ℕ) (answer : Result ℕ Refusal) → kept_as ≡ min fence32 weight → FoundByGiven kept_as answer → FoundByGiven weight answer
meant_kept weight kept_as answer is by = ⊎_elim heavy light (le-or-lt protected weight)
  where
    heavy : protected ≤ weight → FoundByGiven weight answer
    heavy l =
        let was = le-leb protected kept_as (omega (arith, is, l)) in
        record { number = rw (le-leb protected weight l) (rw was at by.number); cost = rw (le-leb protected weight l) (rw was at by.cost) }

    light : weight < protected → FoundByGiven weight answer
    light l = rw (let same : weight ≡ kept_as = omega (arith, is, l) in same) by

module _ (weight : ℕ) (answer : Result ℕ Refusal) (by : FoundByGiven weight answer) where
  -- A refusal was given for a protected pixel, and is 12;
  module _ (why : Refusal) (is : answer ≡ Err why) where
    told : (t : Bool) → number_of why ≡ cond t 12 0 → t ≡ true
    told true n = refl
    told false n = absurd (omega (arith, number-some why))

    above : leb protected weight ≡ true
    above = told (leb protected weight) (sym (ap found_number is) ∙ by.number)

    pub heavy : protected ≤ weight
    heavy = leb-true protected weight above

    pub heavy-number : number_of why ≡ 12
    heavy-number = sym (ap found_number is) ∙ by.number ∙ ap (λ t. cond t 12 0) above

  -- a seam was given where there was none, at the cost that the weight says.
  module _ (cost : ℕ) (is : answer ≡ Ok cost) where
    served : (t : Bool) → ◌≡◌ {A = ℕ} 0 (cond t 12 0) → t ≡ false
    served true n = absurd (omega arith)
    served false n = refl

    below : leb protected weight ≡ false
    below = served (leb protected weight) (sym (ap found_number is) ∙ by.number)

    pub light : weight < protected
    light = leb-false protected weight below

    pub light-cost : found_cost answer ≡ weight % kept
    light-cost = by.cost ∙ ap (λ t. cond t 0 (weight % kept)) below
