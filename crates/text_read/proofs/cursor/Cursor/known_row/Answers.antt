-- `text_read::cursor::Cursor::known_row` meets its contract: the numbers of such a line come next, and its line end after them.
use Rattle.text_read.proofs.KnownLines.{row_known}
use Rattle.text_read.proofs.cursor.Cursor.known_row.Goals as goal

pub returns : goal.returns
returns c = row_known c.known.ensures c.known.auto.out
