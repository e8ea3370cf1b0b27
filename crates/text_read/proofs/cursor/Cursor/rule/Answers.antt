-- `text_read::cursor::Cursor::rule` meets its contract: a word that is a name is read, and the name is that of an energy rule or not.
use Rattle.std.proofs.Common.{sym}
use Rattle.text_theory.specs.Words.{rule_name, all_rules, rule_get}
use Rattle.text_read.proofs.Onward.{refused}
use Rattle.text_read.proofs.WordSteps.{told_called, told_not_called, told_unnamed}
use Rattle.text_read.proofs.cursor.Cursor.rule.Goals as goal

pub returns-in_err-name : goal.returns-in_err-name
unfolding rule_get
returns-in_err-name c = refused c.from_residual.ensures (told_unnamed rule_name all_rules c.in_err-name.ensures)

pub returns-in_err-rule : goal.returns-in_err-rule
unfolding rule_get
returns-in_err-rule c =
    refused c.from_residual-in_err-rule.ensures
    (told_not_called rule_name all_rules c.in_ok-name.ensures (sym c.in_err-rule.ensures))

pub returns : goal.returns
unfolding rule_get
returns c = told_called rule_name all_rules c.in_ok-name.ensures (sym c.in_ok-rule.ensures)
