-- `file_read::widths::show` meets its contract: what opening, the width, the spaces and the judge refuse, one after the other; where they
-- refuse nothing, what is drawn is what the file shows.
use Rattle.std.proofs.Common.{◌≡◌, Err, rules}
use Rattle.file_read.proofs.ShowAnswers.{show_early, show-short, show-refused, show-served}
use Rattle.file_read.proofs.widths.show.Goals as goal

pub returns-in_err-opened : goal.returns-in_err-opened
returns-in_err-opened c =
    let why = c.in_err-opened.field-0.0 in
    let is : c.from_residual.result ≡ Err why = search rules in
    rw is (show_early _ _ _ _ why c.in_err-opened.ensures.number)

pub returns-in_err-judge_wanted : goal.returns-in_err-judge_wanted
returns-in_err-judge_wanted c =
    let why = c.in_err-judge_wanted.field-0.0 in
    let is : c.from_residual-in_err-judge_wanted.result ≡ Err why = search rules in
    rw (is, ← c.in_ok-opened.ensures.same) (show-short _ _ _ _ _ c.in_ok-opened.opened.open why c.in_err-judge_wanted.ensures)

pub returns-in_err-judge : goal.returns-in_err-judge
returns-in_err-judge c =
    let why = c.in_err-judge.field-0.0 in
    let is : c.from_residual-in_err-judge.result ≡ Err why = search rules in
    rw (is, ← c.in_ok-opened.ensures.same)
    (show-refused _ _ _ _ _ c.in_ok-opened.opened.open c.in_ok-judge_wanted.ensures why c.in_err-judge.ensures)

pub returns : goal.returns
returns c =
    rw (← c.in_ok-opened.ensures.same)
    (show-served _ _ _ _ _ c.in_ok-opened.opened.open c.in_ok-judge_wanted.ensures c.in_ok-judge.ensures c.draw.ensures)
