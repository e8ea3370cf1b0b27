-- `seam_retarget::seams::Seam::find` meets its contract.
use mathlib.Core.Path.{ap}
use borrow.Author.Rules.{rules}
use Rattle.seam_rules.specs.Answers.{found_cost}
use Rattle.seam_retarget.proofs.Steps.{seam_given}
use Rattle.seam_retarget.proofs.seams.Seam.find.Goals as goal

pub returns : goal.returns
returns c =
    let a = c.args in
    let s = a.self in
    let found = c.find_in in
    rw (ap found_cost c.unwrap.ensures)
    at (seam_given a.work.now a.from s.size.size s.method s.axis s.at a.seam.now s.size.allowed c.requires c.turn.new.work c.turn.ensures
    found.result found.new.space found.new.seam (rw c.turned_size-over.ensures at found.ensures) (λ i. search rules))
