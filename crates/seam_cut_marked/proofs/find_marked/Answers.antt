-- `seam_cut_marked::find_marked` meets its contract: `judge_marked` gives the numbers to 8, and where it gives none,
-- `marked_along` all else.
use Rattle.std.proofs.Common.{◌≡◌, Err, replicate, sym, ap, ◌∙◌, rules}
use Rattle.seam_cut_marked.proofs.Buffers.{not-found, found, marked_needed}
use Rattle.seam_cut_marked.proofs.find_marked.Goals as goal

pub returns-in_err-judge_marked : goal.returns-in_err-judge_marked
returns-in_err-judge_marked c =
    let why = c.in_err-judge_marked.field-0.0 in
    let is : c.from_residual.result ≡ Err why = search rules in
    rw is (not-found why c.in_err-judge_marked.ensures)

pub marked_along-found-requires : goal.marked_along-found-requires
marked_along-found-requires c = marked_needed (sym c.in_ok-judge_marked.ensures)

pub returns : goal.returns
returns c =
    let f = c.marked_along-found in
    rw (c.clear.ensures ∙ ap (λ n. replicate n 0) f.auto.work) (found (sym c.in_ok-judge_marked.ensures) f.ensures.found)
