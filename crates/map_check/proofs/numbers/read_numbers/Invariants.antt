-- `map_check::numbers::read_numbers` meets its contract. The loop's invariant: the first c numbers are stored.
use Rattle.grids.proofs.Tables.{Copied}
use Rattle.pictures.specs.Numbers.{numbers_in}
use Rattle.map_check.proofs.numbers.read_numbers.Given as goal

abbrev pub invariant-loop-c : goal.invariant-loop-c
invariant-loop-c l = Copied (numbers_in l.row) l.initial.numbers 0 l.c-end l.c l.numbers
