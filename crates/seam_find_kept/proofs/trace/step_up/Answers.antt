-- `seam_find_kept::trace::step_up` meets its contract: the way leads to one of the columns, so that it is the column itself.
use Rattle.std.proofs.Common.{◌<◌, length, ap, ◌∙◌, arith}
use Rattle.pictures.specs.Limits.{most_side}
use Rattle.pictures.proofs.Limits.{sides_are}
use Rattle.seam_find_kept.specs.Finding.{costs_in}
use Rattle.seam_find_kept.proofs.KeptRows.{kept-cheap}
use Rattle.seam_find_kept.proofs.Small.{kept-small, kept-long}
use Rattle.seam_find_kept.proofs.WayBack.{Stepped, stepped}
use Rattle.seam_find_kept.proofs.trace.step_up.Given as given
use Rattle.seam_find_kept.proofs.trace.step_up.Goals as goal
use Rattle.seam_find_kept.proofs.trace.step_up.Goals.{After-way_up}

pub way_up-requires-clause-row : goal.way_up-requires-clause-row
way_up-requires-clause-row g c =
    let a = c.args in
    let k = a.costs in
    let n = c.requires.row in
    let cheap = kept-cheap a.method.energy a.size a.width k.up.now k.left.now k.right.now c.requires.planes in
    let few : a.i < most_side = omega (arith, n.inside, (sides_are a.size c.requires.planes.sides).height_small) in
    record {
      inside = n.inside;
      column = n.column;
      long = ap length n.sums ∙ kept-long _ a.width cheap g.S.Sum.most a.i;
      small = λ j. rw n.sums (kept-small _ a.width cheap a.i few g.S.Sum.most j);
    }

step : (g : given.Over) (c : After-way_up g)
    → Stepped (costs_in c.args.method.energy c.args.size c.args.width c.args.costs.up.now c.args.costs.left.now c.args.costs.right.now)
    c.args.width c.args.i c.args.c c.way_up.result
step g c =
    let a = c.args in
    let k = a.costs in
    let n = c.requires.row in
    let cheap = kept-cheap a.method.energy a.size a.width k.up.now k.left.now k.right.now c.requires.planes in
    let few : a.i < most_side = omega (arith, n.inside, (sides_are a.size c.requires.planes.sides).height_small) in
    stepped _ a.width a.i a.c cheap few n.column g.S.Sum.most c.way_up.result _ n.sums n.low c.way_up.ensures

pub overflow_sub-result : goal.overflow_sub-result
overflow_sub-result g c = (step g (goal.at.overflow_sub-result g c).After-way_up).later

pub returns : goal.returns
returns g c = (step g (goal.at.returns g c).After-way_up).leads
