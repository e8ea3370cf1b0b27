-- `seam_cut_marked::cut_marked` meets its contract: `judge_marked` gives the numbers to 8, and where it gives none, `cut_judged` all
-- else.
use Rattle.std.proofs.Common.{◌≡◌, Err, replicate, ap, ◌∙◌, rules}
use Rattle.seam_cut_marked.proofs.Cuts.{not_cut}
use Rattle.seam_cut_marked.proofs.cut_marked.Goals as goal

pub returns-in_err-judge_marked : goal.returns-in_err-judge_marked
returns-in_err-judge_marked c =
    let why = c.in_err-judge_marked.field-0.0 in
    let is : c.from_residual.result ≡ Err why = search rules in
    rw is (not_cut why c.in_err-judge_marked.ensures)

pub returns : goal.returns
returns c =
    let q = c.cut_judged-cut in
    rw (c.clear.ensures ∙ ap (λ n. replicate n 0) q.auto.work) q.ensures.cut
