-- `program_filters::fit_program::width_line` meets its contract: the line has one number, its last.
use Rattle.program_theory.specs.Programs.{width_get}
use Rattle.program_netpbm.specs.Headers.{last_number}
use Rattle.program_filters.proofs.fit_program.width_line.Goals as goal

pub returns : goal.returns
unfolding width_get last_number
returns c = c.last_number.ensures
