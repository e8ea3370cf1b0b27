-- `text_read::cursor::Cursor::energy_line` meets its contract: after each word, what is left of the line is left to read.
use Rattle.std.proofs.Common.{List, ℕ}
use Rattle.std.proofs.Math.Option.{some}
use Rattle.energy.specs.declared.methods.EnergyRule.{EnergyRule}
use Rattle.text_theory.specs.declared.Name.TheVariants as name
use Rattle.text_theory.specs.Readers.{Get, give, ◌▷◌, after}
use Rattle.text_theory.specs.Words.{rule_get}
use Rattle.text_theory.specs.Files.{blank, closed, begun, energy_get}
use Rattle.text_read.specs.declared.cursor.Class.TheVariants.{Blank}
use Rattle.text_read.specs.Answers.{Told, of_class, beginning}
use Rattle.text_read.proofs.ByteClasses.{told_blank}
use Rattle.text_read.proofs.Onward.{refused, Left, left_start, left-past, left_no_past, left-past-give, left_then, left_no_then, told_begun}
use Rattle.text_read.proofs.cursor.Cursor.energy_line.Goals as goal

-- The line from its closing bracket on.
abbrev from-closing : EnergyRule → Get EnergyRule
from-closing e = after closed (give e)

-- What is left after the name, the blank, the rule.
module _ {text : List ℕ} {from v a : ℕ} (N : Told (beginning name.Energy) text from (some (v, a))) where
  after-name : Left energy_get text from (after blank (rule_get ▷ from-closing)) a
  unfolding energy_get
  after-name = left-past (begun name.Energy) left_start (told_begun name.Energy N)

  module _ {u b : ℕ} (B : Told (of_class Blank) text a (some (u, b))) where
    after-blank : Left energy_get text from (rule_get ▷ from-closing) b
    after-blank = left-past blank after-name (told_blank B)

    after-rule : {e : EnergyRule} {c : ℕ} → Told rule_get text b (some (e, c)) → Left energy_get text from (from-closing e) c
    after-rule R = left_then from-closing after-blank R

pub returns-in_err-a : goal.returns-in_err-a
unfolding energy_get
returns-in_err-a c =
    refused c.from_residual.ensures
    (left_no_past (begun name.Energy) _ left_start (told_begun name.Energy c.in_err-a.ensures))

pub returns-in_err-b : goal.returns-in_err-b
returns-in_err-b c =
    refused c.from_residual-in_err-b.ensures
    (left_no_past blank _ (after-name c.in_ok-a.ensures) (told_blank c.in_err-b.ensures))

pub returns-in_err-energy : goal.returns-in_err-energy
returns-in_err-energy c =
    refused c.from_residual-in_err-energy.ensures
    (left_no_then _ (after-blank c.in_ok-a.ensures c.in_ok-b.ensures) c.in_err-energy.ensures)

pub returns-in_err-d : goal.returns-in_err-d
returns-in_err-d c =
    refused c.from_residual-in_err-d.ensures
    (left_no_past closed _ (after-rule c.in_ok-a.ensures c.in_ok-b.ensures c.in_ok-energy.ensures) c.in_err-d.ensures)

pub returns : goal.returns
returns c =
    left-past-give closed (after-rule c.in_ok-a.ensures c.in_ok-b.ensures c.in_ok-energy.ensures) c.in_ok-d.ensures
