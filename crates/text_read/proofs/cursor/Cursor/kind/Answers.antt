-- `text_read::cursor::Cursor::kind` meets its contract: a word that is a name is read, and the name is that of a kind or not.
use Rattle.std.proofs.Common.{sym}
use Rattle.text_theory.specs.Words.{kind_name, all_kinds, kind_get}
use Rattle.text_read.proofs.Onward.{refused}
use Rattle.text_read.proofs.WordSteps.{told_called, told_not_called, told_unnamed}
use Rattle.text_read.proofs.cursor.Cursor.kind.Goals as goal

pub returns-in_err-name : goal.returns-in_err-name
unfolding kind_get
returns-in_err-name c = refused c.from_residual.ensures (told_unnamed kind_name all_kinds c.in_err-name.ensures)

pub returns-in_err-kind : goal.returns-in_err-kind
unfolding kind_get
returns-in_err-kind c =
    refused c.from_residual-in_err-kind.ensures
    (told_not_called kind_name all_kinds c.in_ok-name.ensures (sym c.in_err-kind.ensures))

pub returns : goal.returns
unfolding kind_get
returns c = told_called kind_name all_kinds c.in_ok-name.ensures (sym c.in_ok-kind.ensures)
