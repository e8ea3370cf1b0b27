-- `text_read::cursor::Cursor::line` meets its contract: the first pass finds the line, the second takes what it counted.
use Rattle.text_read.proofs.LinesTaken.{line_no_word, line_torn, kept_long, kept_coming, kept_fits}
use Rattle.text_read.proofs.cursor.Cursor.line.Goals as goal

pub returns-in_err-c : goal.returns-in_err-c
returns-in_err-c g c = rw c.from_residual.ensures (line_no_word _ _ c.in_err-c.ensures)

pub returns-in_err-n : goal.returns-in_err-n
returns-in_err-n g c = rw c.from_residual-in_err-n.ensures (line_torn _ _ c.in_ok-c.ensures c.in_err-n.ensures)

pub returns-then-room-n : goal.returns-then-room-n
returns-then-room-n g c = kept_long _ _ c.in_ok-c.ensures c.in_ok-n.ensures g.T.Kept.value _ c.numbers_of-each.ensures c.if-room-n.true

pub returns : goal.returns
returns g c =
    let k = kept_coming _ _ c.in_ok-c.ensures c.in_ok-n.ensures g.T.Kept.value c.args.out.now c.numbers_of-each.ensures c.if-room-n.false c.requires in
    kept_fits _ _ c.in_ok-c.ensures c.in_ok-n.ensures g.T.Kept.value c.args.out.now c.numbers_of-each.ensures c.if-room-n.false
    c.known.new.out (c.known.ensures.numbers k)
