-- The bytes of a map line's numbers fill their part.
use Rattle.std.proofs.Common.{sym, ◌∙◌}
use Rattle.file_read.proofs.Parsed.{opened}
use Rattle.file_read.proofs.Places.{record_there, record-long, row-of-pairs}
use Rattle.file_read.proofs.lines.RecordLinesLinesU8.part.Goals as goal

pub returns : goal.returns
returns c =
    let f = c.args.self.now.0 in
    let k = opened f.text.now f.head f.open in
    let r = c.args._r in
    let inside = c.requires.inside in
    let m = c.known_record.ensures.line _ _ (record_there k r inside c.args.at.at c.requires.there) (record-long k r inside ∙ sym c.requires.fits) in
    record { next = m.1; filled = m.0 ∙ sym (row-of-pairs k r inside) }
