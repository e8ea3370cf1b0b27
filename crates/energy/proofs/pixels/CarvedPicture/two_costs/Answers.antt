-- `energy::pixels::CarvedPicture::two_costs` meets its contract: by a rule of one cost all three costs are the energy.
use Rattle.std.proofs.Common.{◌≡◌, true, false, ℕ, sym, ap, ◌∙◌}
use Rattle.pictures.specs.Pictures.{Picture, picture}
use Rattle.energy.specs.declared.methods.Method.{Method}
use Rattle.energy.specs.declared.pixels.Step.{Step}
use Rattle.energy.specs.Around.{around}
use Rattle.energy.specs.Methods.{wrap_of}
use Rattle.energy.specs.Energy.{costs_from, costs_at, one_cost, forward}
use Rattle.energy.specs.Pixels.{cost_to}
use Rattle.energy.proofs.Steps.{costs-alike, forward-costs}
use Rattle.energy.proofs.Places.{cost-alike}
use Rattle.energy.proofs.pixels.CarvedPicture.two_costs.Goals as goal

module _ (how : Method) (from : Step) (w h : ℕ) (p : Picture) (r c : ℕ) where
  by_energy : one_cost how.energy ≡ true → (costs_from how.energy (around false w h p r c)).up ≡ cost_to from (costs_at how w h p r c)
  unfolding wrap_of costs_at
  by_energy one = sym (cost-alike from (costs_at how w h p r c) (costs-alike how one w h p r c))

  by_step : one_cost how.energy ≡ false → cost_to from (forward (around false w h p r c)) ≡ cost_to from (costs_at how w h p r c)
  unfolding wrap_of
  by_step other = sym (ap (cost_to from) (forward-costs how w h p other r c))

pub returns-then-has_one_cost-clause-before : goal.returns-then-has_one_cost-clause-before
returns-then-has_one_cost-clause-before g c =
    let a = c.args in
    let s = a.self.now in
    c.energy_at.ensures ∙ by_energy a.method a.from s.width s.size.height (picture s.size s.bytes.now) a.r a.before (sym c.has_one_cost.ensures ∙ c.if-has_one_cost.true)

pub returns-then-has_one_cost-clause-here : goal.returns-then-has_one_cost-clause-here
returns-then-has_one_cost-clause-here g c =
    let a = c.args in
    let s = a.self.now in
    c.energy_at-then-has_one_cost.ensures
    ∙ by_energy a.method a.from s.width s.size.height (picture s.size s.bytes.now) a.r a.here (sym c.has_one_cost.ensures ∙ c.if-has_one_cost.true)

pub returns-else-has_one_cost-clause-before : goal.returns-else-has_one_cost-clause-before
returns-else-has_one_cost-clause-before g c =
    let a = c.args in
    let s = a.self.now in
    c.step_cost.ensures ∙ by_step a.method a.from s.width s.size.height (picture s.size s.bytes.now) a.r a.before (sym c.has_one_cost.ensures ∙ c.if-has_one_cost.false)

pub returns-else-has_one_cost-clause-here : goal.returns-else-has_one_cost-clause-here
returns-else-has_one_cost-clause-here g c =
    let a = c.args in
    let s = a.self.now in
    c.step_cost-else-has_one_cost.ensures
    ∙ by_step a.method a.from s.width s.size.height (picture s.size s.bytes.now) a.r a.here (sym c.has_one_cost.ensures ∙ c.if-has_one_cost.false)
