-- The length of a row that is shown fits its type: the width is offered.
use Rattle.std.proofs.Common.{arith}
use Rattle.map_theory.proofs.Shown.{offered_is}
use Rattle.file_rules.proofs.Ranges.{bounded}
use Rattle.file_read.proofs.Parsed.{opened}
use Rattle.file_read.proofs.Offered.{sound}
use Rattle.file_read.proofs.widths.ShownLinesLinesU8.long.Goals as goal

pub overflow_mul-result : goal.overflow_mul-result
overflow_mul-result c =
    let s = c.args.self.now in
    let f = s.file in
    let h = f.head in
    let o = (offered_is h.size.width h.depth h.growth s.wanted).0 s.shown.offers in
    rw c.pixel_bytes.ensures (omega (arith, (bounded h s.wanted (sound (opened f.text.now h f.open)) o.1).row_most))
