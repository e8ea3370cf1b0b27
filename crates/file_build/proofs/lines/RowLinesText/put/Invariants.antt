-- What is left of the text are the lines of the rows from the index on.
use Rattle.std.proofs.Common.{◌≡◌, drop}
use Rattle.pictures.specs.Pictures.{picture as Pictures·picture}
use Rattle.text_theory.specs.Files.{row_word, each, pixel_text, line_text}
use Rattle.text_lengths.specs.Sinks.{puts}
use Rattle.file_build.proofs.lines.RowLinesText.put.Given as goal

abbrev pub invariant-loop-r : goal.invariant-loop-r
invariant-loop-r g l =
    let rows = Pictures·picture l.fn.self.source.head.size l.fn.self.source.picture.now in
    let put = line_text (pixel_text l.fn.self.source.head.size.kind) in
    puts g.S.Sink.takes l.fn.sink (each row_word put rows) ≡ puts g.S.Sink.takes l.after (each row_word put (drop l.r rows))
