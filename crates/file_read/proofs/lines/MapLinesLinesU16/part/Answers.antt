-- A map line fills its part.
use Rattle.std.proofs.Common.{sym, ◌∙◌}
use Rattle.file_read.proofs.Parsed.{opened}
use Rattle.file_read.proofs.Places.{row-of-map}
use Rattle.file_read.proofs.lines.MapLinesLinesU16.part.Goals as goal

pub returns : goal.returns
returns c =
    let f = c.args.self.now.0 in
    let m = c.map_line.ensures c.args._r c.requires.inside c.requires.there in
    record { next = m.next; filled = m.numbers ∙ sym (row-of-map (opened f.text.now f.head f.open) c.args._r c.requires.inside) }
