-- `map_check::numbers::read_numbers` meets its contract: each turn stores one number.
use mathlib.Core.Path.{sym, ◌∙◌}
use native.Mathlib.Omega.{arith}
use Rattle.grids.proofs.Tables.{stored_turn, copied-end}
use Rattle.pictures.specs.Numbers.{numbers_in}
use Rattle.pictures.proofs.TwoBytes.{numbers_at, length-numbers}
use Rattle.map_check.proofs.numbers.read_numbers.Goals as goal

pub loop-c-preserved : goal.loop-c-preserved
loop-c-preserved c =
    let l = c.loop-c in
    stored_turn _ _ _ l.c l.numbers _ 0 c.loop-c-test.true
    (c.number.ensures.0 ∙ sym (numbers_at c.args.row.now l.c (omega (arith, c.requires, c.loop-c-test.true))))
    l.invariant

pub returns : goal.returns
returns c =
    let l = c.loop-c in
    let row = c.args.row.now in
    copied-end (numbers_in row) c.args.numbers.now 0 _ l.c l.numbers (omega (arith, length-numbers row, c.requires)) (omega (arith, c.loop-c-test.false)) l.invariant
