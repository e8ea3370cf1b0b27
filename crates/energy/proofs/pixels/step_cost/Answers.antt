-- `energy::pixels::step_cost` meets its contract: the places that are read are those of the pixels that meet.
use Rattle.std.proofs.Common.{◌+◌, ap₂, ◌∙◌}
use Rattle.energy.proofs.Places.{StepsThere, steps_there}
use Rattle.energy.proofs.pixels.step_cost.Goals as goal
use Rattle.energy.proofs.pixels.step_cost.Goals.{After-pixels_apart-across}
use Rattle.energy.proofs.pixels.step_cost.Given.{Over}

steps : (g : Over) (c : After-pixels_apart-across g)
    → StepsThere c.args.size c.args.picture.now c.args.width c.args.r c.args.c g.row.N c.requires.asked c.saturating_sub.result c.min.result c.saturating_sub.ensures c.min.ensures
steps g c =
    let a = c.args in
    steps_there a.size a.picture.now a.width a.r a.c g.row.N c.requires.asked _ _ c.saturating_sub.ensures c.min.ensures

pub returns-then-r-eq0 : goal.returns-then-r-eq0
returns-then-r-eq0 g c =
    let s = steps g (goal.at.returns-then-r-eq0 g c).After-pixels_apart-across in
    c.pixels_apart-across.ensures.0 ∙ s.first c.args.from c.if-r-eq0.true

pub returns-in-Up : goal.returns-in-Up
returns-in-Up g c =
    let s = steps g (goal.at.returns-in-Up g c).After-pixels_apart-across in
    c.pixels_apart-across.ensures.0 ∙ rw c.in-Up.is s.up

pub returns-in-Left : goal.returns-in-Left
returns-in-Left g c =
    let s = steps g (goal.at.returns-in-Left g c).After-pixels_apart-across in
    ap₂ ◌+◌ c.pixels_apart-across.ensures.0 c.pixels_apart.ensures.0 ∙ rw c.in-Left.is (s.left_cost c.if-r-eq0.false)

pub returns-in-Right : goal.returns-in-Right
returns-in-Right g c =
    let s = steps g (goal.at.returns-in-Right g c).After-pixels_apart-across in
    ap₂ ◌+◌ c.pixels_apart-across.ensures.0 c.pixels_apart-in-Right.ensures.0 ∙ rw c.in-Right.is (s.right_cost c.if-r-eq0.false)
