-- Reading a row line meets the contract of its trait: the line stands at the place, and fills its part.
use Rattle.std.proofs.Common.{sym, ◌∙◌}
use Rattle.file_read.proofs.Parsed.{opened}
use Rattle.file_read.proofs.Places.{row_there, row-long, row-of-samples}
use Rattle.file_read.proofs.lines.RowLinesLinesU8.part.Goals as goal

pub returns : goal.returns
returns c =
    let f = c.args.self.now.0 in
    let k = opened f.text.now f.head f.open in
    let r = c.args._r in
    let inside = c.requires.inside in
    let m = (c.known_row.ensures f.head.size.kind).line _ _ (row_there k r inside c.args.at.at c.requires.there) (row-long k r inside ∙ sym c.requires.fits) in
    record { next = m.1; filled = m.0 ∙ sym (row-of-samples k r inside) }
