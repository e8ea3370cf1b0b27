-- `seam_objects::has_two` meets its contract.
use Rattle.std.proofs.Common.{◌≡◌, ◌||◌, false, length, drop, ap, sym, ◌∙◌, arith}
use mathlib.Core.Bool.{or-false}
use lib.Seq.{drop-length}
use Rattle.seam_objects.specs.Objects.{some_two}
use Rattle.seam_objects.proofs.Twos.{two-turn}
use Rattle.seam_objects.proofs.has_two.Goals as goal

pub loop-mark-preserved : goal.loop-mark-preserved
loop-mark-preserved c =
    let l = c.loop-mark in
    two-turn l.some c.args.marks.now l.mark-index c.loop-mark-test.true ∙ l.invariant

pub returns : goal.returns
unfolding some_two
returns c =
    let l = c.loop-mark in
    let marks = c.args.marks.now in
    let end : l.mark-index ≡ length marks = omega (arith, c.loop-mark-test.false) in
    let none : some_two (drop l.mark-index marks) ≡ false = rw (end, drop-length marks) in
    sym (or-false l.some) ∙ ap (l.some ||◌) (sym none) ∙ l.invariant
