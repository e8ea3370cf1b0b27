-- `text_read::cursor::Cursor::name` meets its contract. The invariant: none of the first names stands here.
use Rattle.text_read.proofs.WordSteps.{naming_first, naming-next, naming-found, naming-end}
use Rattle.text_read.proofs.cursor.Cursor.name.Goals as goal

pub loop-name-init : goal.loop-name-init
loop-name-init c = naming_first

pub returns-in-Some : goal.returns-in-Some
returns-in-Some c = naming-found c.loop-name.invariant c.loop-name-test.true (rw c.all_names-name-items.ensures) c.in-Some.ensures

pub loop-name-preserved : goal.loop-name-preserved
loop-name-preserved c = naming-next c.loop-name.invariant c.loop-name-test.true (rw c.all_names-name-items.ensures) c.in_default.ensures

pub returns : goal.returns
returns c = naming-end c.loop-name.invariant c.loop-name-test.false
