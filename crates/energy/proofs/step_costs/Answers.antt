-- `energy::step_costs` meets its contract: in row 0, and by a rule of one cost, the three rows are the energies; else those at the sides
-- are worked out.
use Rattle.std.proofs.Common.{rules, ℕ, ◌≡◌, ◌++◌, take, drop, length, sym, ap, ◌∙◌, length-take-le, arith}
use mathlib.Core.List.{append-nil}
use native.Mathlib.Nat.{le_of_eq}
use lib.ListN.{drop_of_length-le}
use Rattle.grids.specs.Table.{table}
use Rattle.pictures.specs.Pictures.{picture}
use Rattle.energy.specs.Methods.{wrap_of}
use Rattle.energy.specs.Energy.{StepCosts, energies}
use Rattle.energy.proofs.Steps.{alike_row, not-alike, forward-costs}
use Rattle.energy.proofs.step_costs.Goals as goal

pub returns-then-is_alike : goal.returns-then-is_alike
returns-then-is_alike c =
    let a = c.args in
    let z = a.size in
    let same = alike_row a.method z.width z.height (picture z a.picture.now) a.r (sym c.is_alike.ensures ∙ c.if-is_alike.true) in
    let short : length (take z.width a.up.now) ≡ z.width = length-take-le z.width a.up.now (omega arith) in
    let filled : c.row_energies.new.out ≡ energies a.method z.width z.height (picture z a.picture.now) a.r =
    c.row_energies.ensures ∙ ap (energies a.method z.width z.height (picture z a.picture.now) a.r ++◌) (drop_of_length-le (take z.width a.up.now) (le_of_eq short)) ∙ append-nil _
    in
    record {
      number = search rules;
      left_given = ap (◌++ drop z.width a.left.now) (c.copy_from_slice.ensures.after ∙ filled ∙ sym same.0);
      up_given = ap (◌++ drop z.width a.up.now) filled;
      right_given = ap (◌++ drop z.width a.right.now) (c.copy_from_slice-then-is_alike.ensures.after ∙ filled ∙ sym same.1);
    }

pub returns-else-is_alike : goal.returns-else-is_alike
unfolding wrap_of
returns-else-is_alike c =
    let a = c.args in
    let z = a.size in
    let other = not-alike a.method.energy a.r (sym c.is_alike.ensures ∙ c.if-is_alike.false) in
    let costs = forward-costs a.method z.width z.height (picture z a.picture.now) other.0 a.r in
    record {
      number = search rules;
      left_given =
          ap (◌++ drop z.width a.left.now)
          (c.row_steps.ensures.left ∙ ap (λ (k : ℕ → StepCosts). table (λ x. (k x).left) z.width) (λ j x. sym (costs x) j));
      up_given =
          ap (◌++ drop z.width a.up.now)
          (c.row_steps.ensures.up ∙ ap (λ (k : ℕ → StepCosts). table (λ x. (k x).up) z.width) (λ j x. sym (costs x) j));
      right_given =
          ap (◌++ drop z.width a.right.now)
          (c.row_steps.ensures.right ∙ ap (λ (k : ℕ → StepCosts). table (λ x. (k x).right) z.width) (λ j x. sym (costs x) j));
    }
