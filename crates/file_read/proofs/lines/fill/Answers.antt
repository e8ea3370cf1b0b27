-- `file_read::lines::fill` meets its contract. The invariant: r parts of the space are filled, and at the place stands line r.
use Rattle.std.proofs.Common.{◌≡◌, ◌+◌, ◌*◌, length, refl}
use Rattle.grids.specs.Rows.{row_at}
use Rattle.file_read.proofs.Filled.{filled-step}
use Rattle.file_read.proofs.lines.fill.Goals as goal

pub loop-r-preserved : goal.loop-r-preserved
loop-r-preserved g c =
    let whole = g.L.Lines.whole c.args.lines.now in
    let long = c.long-long.result in
    let at = c.loop-r.r * c.long-long.result in
    let size : length (g.L.Lines.whole c.args.lines.now) ≡ c.count-r-end.result * c.long-long.result =
    rw (c.count-r-end.ensures, c.long-long.ensures) c.requires.size in
    let is : c.part-here.new.part ≡ row_at c.long-long.result c.loop-r.r (g.L.Lines.whole c.args.lines.now) = rw c.long-long.ensures c.part-here.ensures.filled in
    record {
      there = c.part-here.ensures.next;
      filled =
          filled-step whole c.args.space.now long c.count-r-end.result c.loop-r.r at (c.loop-r.r * c.long-long.result + c.long-long.result)
          c.loop-r.space c.part-here.new.part size c.loop-r-test.true refl refl is c.loop-r.invariant.filled;
    }
