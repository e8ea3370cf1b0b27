-- `seam_cut_marked::cut_uncleared` meets its contract: `judge_marked` gives the numbers to 8, and where it gives none, `cut_judged` all
-- else.
use Rattle.std.proofs.Common.{◌≡◌, Err, sym, rules}
use Rattle.seam_cut_marked.proofs.Cuts.{not-cut_uncleared, uncleared}
use Rattle.seam_cut_marked.proofs.cut_uncleared.Goals as goal

pub returns-in_err-judge_marked : goal.returns-in_err-judge_marked
returns-in_err-judge_marked c =
    let why = c.in_err-judge_marked.field-0.0 in
    let is : c.from_residual.result ≡ Err why = search rules in
    rw is (not-cut_uncleared why c.in_err-judge_marked.ensures)

pub cut_judged-requires : goal.cut_judged-requires
cut_judged-requires c = record { none = sym c.in_ok-judge_marked.ensures }

pub returns : goal.returns
returns c = uncleared (sym c.in_ok-judge_marked.ensures) c.cut_judged.ensures
