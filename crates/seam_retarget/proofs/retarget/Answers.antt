-- `seam_retarget::retarget` meets its contract.
use mathlib.Core.Path.{sym}
use Rattle.seam_retarget.proofs.Answers.{needed_are}
use Rattle.seam_retarget.proofs.retarget.Goals as goal

pub last_cell-requires : goal.last_cell-requires
last_cell-requires c =
    let a = c.args in
    needed_are a.picture.now a.size a.rows a.columns a.out.now a.work.now (sym c.in_ok-judge_retarget.ensures)
