-- `file_read::checking::check` meets its contract: what opening, the work space and the judge refuse, one after the other.
use Rattle.std.proofs.Common.{◌≡◌, Err, rules}
use Rattle.file_read.proofs.CheckAnswers.{check_early, check-short, check-refused}
use Rattle.file_read.proofs.checking.check.Goals as goal

pub returns-in_err-opened : goal.returns-in_err-opened
returns-in_err-opened c =
    let why = c.in_err-opened.field-0.0 in
    let is : c.from_residual.result ≡ Err why = search rules in
    rw is (check_early _ _ why c.in_err-opened.ensures.number)

pub returns-in_err-judge_work : goal.returns-in_err-judge_work
returns-in_err-judge_work c =
    let why = c.in_err-judge_work.field-0.0 in
    let is : c.from_residual-in_err-judge_work.result ≡ Err why = search rules in
    rw (is, ← c.in_ok-opened.ensures.same) (check-short _ _ _ c.in_ok-opened.opened.open why c.in_err-judge_work.ensures)

pub returns-in_err-judge : goal.returns-in_err-judge
returns-in_err-judge c =
    let why = c.in_err-judge.field-0.0 in
    let is : c.from_residual-in_err-judge.result ≡ Err why = search rules in
    rw (is, ← c.in_ok-opened.ensures.same)
    (check-refused _ _ _ c.in_ok-opened.opened.open c.in_ok-judge_work.ensures why c.in_err-judge.ensures)
