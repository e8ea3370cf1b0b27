-- Reading the row lines meets its contract: they are all of the picture, and after them stand the map lines.
use Rattle.std.proofs.Common.{ap, ◌∙◌, drop, ◌++◌, arith}
use Rattle.text_theory.specs.Files.{parse}
use Rattle.file_theory.specs.Shows.{bytes_in}
use Rattle.file_read.proofs.Parsed.{opened}
use Rattle.file_read.proofs.Places.{bytes-long, rows_end}
use Rattle.file_read.proofs.opening.Opened.read_picture.Goals as goal

pub fill-requires-clause-size : goal.fill-requires-clause-size
fill-requires-clause-size c = let f = c.args.self.now in bytes-long (opened f.text.now f.head f.open)

pub fill-requires-clause-room : goal.fill-requires-clause-room
fill-requires-clause-room c = let f = c.args.self.now in omega (arith, bytes-long (opened f.text.now f.head f.open), c.requires)

pub returns : goal.returns
returns c =
    let f = c.args.self.now in
    let k = opened f.text.now f.head f.open in
    record {
      place = rows_end k c.fill.result.at c.fill.ensures.next;
      space_is = c.fill.ensures.filled ∙ ap (λ n. bytes_in (parse f.text.now) ++ drop n c.args.space.now) (bytes-long k);
    }
