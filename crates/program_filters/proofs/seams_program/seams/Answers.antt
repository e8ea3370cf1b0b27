-- `program_filters::seams_program::seams` meets its contract.
use Rattle.program_theory.specs.Programs.{seams}
use Rattle.program_netpbm.proofs.Outputs.{wrote}
use Rattle.program_filters.proofs.seams_program.seams.Goals as goal

pub returns : goal.returns
unfolding seams
returns c = wrote c.build-answer.ensures c.finish.ensures
