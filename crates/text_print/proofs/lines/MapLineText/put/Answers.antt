use Rattle.text_theory.specs.Files.{begun, map_word, line_text}
use Rattle.text_print.proofs.lines.MapLineText.put.Goals as goal

pub returns : goal.returns
unfolding line_text map_word begun
returns g c = c.put.ensures
