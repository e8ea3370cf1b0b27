-- Opening a file meets its contract: which of 1 to 6 is given, and the place of the first row line.
use Rattle.std.proofs.Common.{◌≡◌, Err, rules, sym}
use Rattle.file_read.specs.Inner.Opening.{Open}
use Rattle.file_read.proofs.Opened.{open_sides, open-counts, open-range, open-served}
use Rattle.file_read.proofs.Parsed.{head_there, head_place}
use Rattle.file_read.proofs.opening.Opened.new.Goals.{After-header}
use Rattle.file_read.proofs.opening.Opened.new.Goals as goal

-- None of 1 to 6 refuses it.
served : (c : After-header) → Open c.args.text.now c.in_ok-facts.facts.head
served c = open-served c.args.text.now c.in_ok-facts.facts (search rules) (sym c.in_ok-judge_sides.ensures) (sym c.if-not-counts_agree.ensures) (sym c.if-not-is_allowed.ensures)

pub returns-in_err-judge_sides-clause-number : goal.returns-in_err-judge_sides-clause-number
returns-in_err-judge_sides-clause-number c =
    let why = c.in_err-judge_sides.field-0.0 in
    let is : c.from_residual-in_err-judge_sides.result ≡ Err why = search rules in
    rw is (open_sides c.args.text.now c.in_ok-facts.facts (search rules) c.judge_sides.result why c.in_err-judge_sides.was c.judge_sides.ensures)

pub returns-then-not-counts_agree-clause-number : goal.returns-then-not-counts_agree-clause-number
returns-then-not-counts_agree-clause-number c =
    open-counts c.args.text.now c.in_ok-facts.facts (search rules) (sym c.in_ok-judge_sides.ensures) (sym c.if-not-counts_agree.ensures)

pub returns-then-not-is_allowed-clause-number : goal.returns-then-not-is_allowed-clause-number
returns-then-not-is_allowed-clause-number c =
    open-range c.args.text.now c.in_ok-facts.facts (search rules) (sym c.in_ok-judge_sides.ensures) (sym c.if-not-counts_agree.ensures) (sym c.if-not-is_allowed.ensures)

pub unwrap-requires : goal.unwrap-requires
unwrap-requires c = head_there c.args.text.now c.in_ok-facts.facts.head (served c) c.header.result c.header.ensures

pub invariant_of-result : goal.invariant_of-result
invariant_of-result c =
    let o = served (goal.at.invariant_of-result c).After-header in
    record {
      «open» = o;
      place = head_place c.args.text.now c.in_ok-facts.facts.head o c.unwrap.result.0 c.unwrap.result.1.at (rw c.unwrap.ensures at c.header.ensures);
    }
