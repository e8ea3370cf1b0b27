-- `text_read::cursor::Cursor::begin` meets its contract: the bracket, then a name, which is the one asked for or not.
use Rattle.std.proofs.Common.{List, ℕ, sym, ◌∙◌, rules}
use denote.Enum.Bare.{same_true, same_false}
use Rattle.text_theory.specs.contracts.Name.{the_type}
use Rattle.std.proofs.Math.Option.{some}
use Rattle.text_theory.specs.declared.Name.{Name}
use Rattle.text_theory.specs.Files.{opening}
use Rattle.text_theory.specs.Words.{named}
use Rattle.text_read.specs.declared.cursor.Class.TheVariants.{Opening}
use Rattle.text_read.specs.Answers.{Told, of_class, beginning}
use Rattle.text_read.proofs.ByteClasses.{told_opening}
use Rattle.text_read.proofs.Onward.{refused_past, when_past, Left, left_start, left-past, left_no_past, left_tail}
use Rattle.text_read.proofs.WordSteps.{told_named, told-other-name, told_not-named}
use Rattle.text_read.proofs.cursor.Cursor.begin.Goals as goal

-- After the bracket the name is left to read.
bracket : (n : Name) {text : List ℕ} {at v c : ℕ} → Told (of_class Opening) text at (some (v, c)) → Left (beginning n) text at (named n) c
unfolding beginning
bracket n t = left-past opening left_start (told_opening t)

pub returns-in_err-c : goal.returns-in_err-c
unfolding beginning
returns-in_err-c c = refused_past c.from_residual.ensures (left_no_past opening _ left_start (told_opening c.in_err-c.ensures))

pub returns-in_err-found : goal.returns-in_err-found
returns-in_err-found c =
    refused_past c.from_residual-in_err-found.ensures
    (left_tail _ (bracket c.args.name c.in_ok-c.ensures) (told_not-named _ c.in_err-found.ensures))

pub returns : goal.returns
returns c =
    let L = bracket c.args.name c.in_ok-c.ensures in
    let t = c.in_ok-found.ensures in
    when_past _ c.then_some.ensures (λ e. left_tail _ L (told_named _ t (same_true the_type (search rules) _ _ (sym c.eq.ensures ∙ e)))) (λ e. left_tail _ L (told-other-name _ t (same_false the_type _ _ (sym c.eq.ensures ∙ e))))
