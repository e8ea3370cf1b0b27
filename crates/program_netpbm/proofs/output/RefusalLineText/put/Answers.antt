use Rattle.program_theory.specs.Programs.{refused_word, refused_text}
use Rattle.program_netpbm.proofs.output.RefusalLineText.put.Goals as goal

pub returns : goal.returns
unfolding refused_text refused_word
returns g c = rw c.number-number.ensures at c.put.ensures
