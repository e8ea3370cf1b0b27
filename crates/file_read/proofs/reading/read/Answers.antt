-- `file_read::reading::read` meets its contract: what opening, the spaces and the judge refuse, one after the other; where they refuse
-- nothing, both spaces are long enough for what is read into them.
use Rattle.std.proofs.Common.{◌≡◌, Err, rules, arith}
use Rattle.file_read.proofs.Parsed.{opened}
use Rattle.file_read.proofs.Places.{map-long}
use Rattle.file_read.proofs.ReadAnswers.{read_early, read_short, map_room, read-refused}
use Rattle.file_read.proofs.reading.read.Goals as goal

pub returns-in_err-opened : goal.returns-in_err-opened
returns-in_err-opened c =
    let why = c.in_err-opened.field-0.0 in
    let is : c.from_residual.result ≡ Err why = search rules in
    rw is (read_early _ _ _ _ why c.in_err-opened.ensures.number)

pub returns-in_err-judge_read_spaces : goal.returns-in_err-judge_read_spaces
returns-in_err-judge_read_spaces c =
    let why = c.in_err-judge_read_spaces.field-0.0 in
    let is : c.from_residual-in_err-judge_read_spaces.result ≡ Err why = search rules in
    rw (is, ← c.in_ok-opened.ensures.same) (read_short _ _ _ _ _ c.in_ok-opened.opened.open why c.in_err-judge_read_spaces.ensures)

pub returns-in_err-judge : goal.returns-in_err-judge
returns-in_err-judge c =
    let why = c.in_err-judge.field-0.0 in
    let is : c.from_residual-in_err-judge.result ≡ Err why = search rules in
    rw (is, ← c.in_ok-opened.ensures.same)
    (read-refused _ _ _ _ _ c.in_ok-opened.opened.open c.in_ok-judge_read_spaces.ensures why c.in_err-judge.ensures)

pub fill-requires-clause-size : goal.fill-requires-clause-size
fill-requires-clause-size c = let f = c.in_ok-opened.opened in map-long (opened f.text.now f.head f.open)

pub fill-requires-clause-room : goal.fill-requires-clause-room
fill-requires-clause-room c =
    let f = c.in_ok-opened.opened in
    omega (arith, map-long (opened f.text.now f.head f.open), map_room _ _ _ _ _ f.open c.in_ok-judge_read_spaces.ensures)
