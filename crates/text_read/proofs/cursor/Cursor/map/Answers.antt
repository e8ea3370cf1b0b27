-- `text_read::cursor::Cursor::map` meets its contract: a map line is a line of this name and of numbers.
use Rattle.text_read.proofs.LinesTaken.{taken_as, map_of}
use Rattle.text_read.proofs.cursor.Cursor.map.Goals as goal

pub returns : goal.returns
returns c = taken_as c.args.out.now c.line.new.out map_of c.line.ensures
