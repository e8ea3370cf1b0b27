-- The lines are those of the head, piece by piece.
use Rattle.text_theory.specs.Words.{kind_text, rule_text}
use Rattle.text_theory.specs.Files.{begun, first_text, size_text, range_text, energy_text, head_text}
use Rattle.text_print.proofs.lines.HeadText.put.Goals as goal

pub returns : goal.returns
unfolding head_text first_text size_text range_text energy_text begun kind_text rule_text
returns g c = rw (c.kind_name-kind.ensures, c.rule_name-rule.ensures) at c.put.ensures
