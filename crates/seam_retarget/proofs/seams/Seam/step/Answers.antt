-- `seam_retarget::seams::Seam::step` meets its contract.
use mathlib.Core.Path.{refl}
use Rattle.seam_retarget.proofs.Cuts.{step_cut, step_given}
use Rattle.seam_retarget.proofs.seams.Seam.step.Goals as goal

pub cut-requires : goal.cut-requires
cut-requires c =
    let a = c.args in
    let s = a.self in
    let found = c.find-cost in
    step_cut a.work.now a.from s.size.size s.method s.axis s.at a.to s.size.allowed c.requires _ found.result found.new.work found.new.seam found.ensures refl

pub returns : goal.returns
returns c =
    let a = c.args in
    let s = a.self in
    let found = c.find-cost in
    step_given a.work.now a.from s.size.size s.method s.axis s.at a.to s.size.allowed c.requires _ found.result found.new.work found.new.seam found.ensures refl
    c.cut.new.work c.cut.ensures
