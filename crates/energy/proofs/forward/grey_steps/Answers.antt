-- `energy::forward::grey_steps` meets its contract: what a pixel costs is what its sample costs.
use Rattle.std.proofs.Common.{length, ◌∙◌, arith}
use Rattle.energy.specs.Inner.{befores, afters}
use Rattle.energy.proofs.Samples.{pixels_are}
use Rattle.energy.proofs.Padded.{few, before-read, after-read, left_needed, up_needed, right_needed}
use Rattle.energy.proofs.forward.grey_steps.Goals as goal

pub returns-clause-left : goal.returns-clause-left
returns-clause-left c =
    let a = c.args in
    let n = c.requires in
    let it = a.it.now in
    pixels_are (afters 1 it) (befores 1 it) a.above.now (befores 1 it) (length a.left.now)
    (c.pixel_steps.ensures.left ∙ rw (after-read 1 it c.pad.new.wide _ (few n) c.pad.ensures, before-read 1 it c.pad.new.wide _ (few n) c.pad.ensures))
    (left_needed 1 it a.above.now (few n) (length a.left.now) (omega (arith, n.row.it_is)) (omega (arith, n.above_is)))

pub returns-clause-up : goal.returns-clause-up
returns-clause-up c =
    let a = c.args in
    let n = c.requires in
    let it = a.it.now in
    pixels_are (afters 1 it) (befores 1 it) (befores 1 it) (befores 1 it) (length a.up.now)
    (c.pixel_steps.ensures.up ∙ rw (after-read 1 it c.pad.new.wide _ (few n) c.pad.ensures, before-read 1 it c.pad.new.wide _ (few n) c.pad.ensures, n.up_is))
    (up_needed 1 it a.above.now (few n) (length a.up.now) (omega (arith, n.row.it_is, n.up_is)) (omega (arith, n.above_is, n.up_is)))

pub returns-clause-right : goal.returns-clause-right
returns-clause-right c =
    let a = c.args in
    let n = c.requires in
    let it = a.it.now in
    pixels_are (afters 1 it) (befores 1 it) a.above.now (afters 1 it) (length a.right.now)
    (c.pixel_steps.ensures.right ∙ rw (after-read 1 it c.pad.new.wide _ (few n) c.pad.ensures, before-read 1 it c.pad.new.wide _ (few n) c.pad.ensures, n.right_is))
    (right_needed 1 it a.above.now (few n) (length a.right.now) (omega (arith, n.row.it_is, n.right_is)) (omega (arith, n.above_is, n.right_is)))
