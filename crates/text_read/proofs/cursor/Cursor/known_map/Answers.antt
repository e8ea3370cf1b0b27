-- `text_read::cursor::Cursor::known_map` meets its contract: the numbers of such a line come next, and its line end after them.
use Rattle.text_read.proofs.KnownLines.{map_known}
use Rattle.text_read.proofs.cursor.Cursor.known_map.Goals as goal

pub returns : goal.returns
returns c = map_known c.known.ensures c.known.auto.out
