-- `program_filters::fit_program::fit` meets its contract.
use Rattle.program_theory.specs.Programs.{fit}
use Rattle.program_netpbm.proofs.Outputs.{wrote}
use Rattle.program_filters.proofs.fit_program.fit.Goals as goal

pub returns : goal.returns
unfolding fit
returns c = wrote c.draw-answer.ensures c.finish.ensures
