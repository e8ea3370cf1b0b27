-- What is left of the text are the lines of the rows from the index on.
use Rattle.std.proofs.Common.{◌≡◌, drop}
use Rattle.text_theory.specs.Decimal.{digits}
use Rattle.text_theory.specs.Files.{map_word, each, line_text}
use Rattle.text_lengths.specs.Sinks.{puts}
use Rattle.file_build.specs.Inner.Lines.{map_in}
use Rattle.file_build.proofs.lines.MapBytesText.put.Given as goal

abbrev pub invariant-loop-r : goal.invariant-loop-r
invariant-loop-r g l =
    let rows = map_in l.fn.self.width l.fn.self.height l.fn.self.bytes.now in
    puts g.S.Sink.takes l.fn.sink (each map_word (line_text digits) rows) ≡ puts g.S.Sink.takes l.after (each map_word (line_text digits) (drop l.r rows))
