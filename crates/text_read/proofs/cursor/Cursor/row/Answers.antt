-- `text_read::cursor::Cursor::row` meets its contract: a row line is a line of this name and of the kind's items.
use Rattle.text_read.proofs.LinesTaken.{taken_as, row_of}
use Rattle.text_read.proofs.cursor.Cursor.row.Goals as goal

pub returns : goal.returns
returns c = taken_as c.args.out.now c.line.new.out (row_of c.args.kind) (rw c.items_of.ensures at c.line.ensures)
