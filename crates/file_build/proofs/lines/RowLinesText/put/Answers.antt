-- Each row is put as the line of that row of the picture.
use mathlib.Core.Path.{◌∙◌}
use Rattle.std.proofs.Common.{[]}
use Rattle.file_build.proofs.Onward.{line_taken, line_refused, lines_done}
use Rattle.file_build.proofs.PictureRows.{rows-many, row_line_lem}
use Rattle.file_build.proofs.lines.RowLinesText.put.Goals as goal

pub returns-in_err-after : goal.returns-in_err-after
returns-in_err-after g c =
    let s = c.args.self.now.source in
    c.from_residual.ensures
    ∙ line_refused _ _ _ [] _ _ (rows-many s.head.size s.picture.now s.sized) c.loop-r.invariant c.loop-r-test.true
    (row_line_lem s.head.size s.picture.now s.sized c.loop-r-test.true c.row-samples.ensures) c.in_err-after.ensures

pub loop-r-preserved : goal.loop-r-preserved
loop-r-preserved g c =
    let s = c.args.self.now.source in
    line_taken _ _ _ [] _ _ (rows-many s.head.size s.picture.now s.sized) c.loop-r.invariant c.loop-r-test.true
    (row_line_lem s.head.size s.picture.now s.sized c.loop-r-test.true c.row-samples.ensures) c.in_ok-after.ensures

pub returns : goal.returns
returns g c = let s = c.args.self.now.source in lines_done _ _ _ [] _ _ (rows-many s.head.size s.picture.now s.sized) c.loop-r.invariant c.loop-r-test.false
