-- Each row is put from its bytes as the line of that row of the map.
use mathlib.Core.Path.{◌∙◌}
use Rattle.std.proofs.Common.{[]}
use Rattle.file_build.proofs.Onward.{line_taken, line_refused, lines_done}
use Rattle.file_build.proofs.MapRows.{maps-many, map_line_lem}
use Rattle.file_build.proofs.lines.MapBytesText.put.Goals as goal

pub returns-in_err-after : goal.returns-in_err-after
returns-in_err-after g c =
    let m = c.args.self.now in
    c.from_residual.ensures
    ∙ line_refused _ _ _ [] _ _ (maps-many m.width m.height m.bytes.now) c.loop-r.invariant c.loop-r-test.true
    (map_line_lem m.width m.height m.bytes.now c.loop-r-test.true c.as_chunks.ensures.front) c.in_err-after.ensures

pub loop-r-preserved : goal.loop-r-preserved
loop-r-preserved g c =
    let m = c.args.self.now in
    line_taken _ _ _ [] _ _ (maps-many m.width m.height m.bytes.now) c.loop-r.invariant c.loop-r-test.true
    (map_line_lem m.width m.height m.bytes.now c.loop-r-test.true c.as_chunks.ensures.front) c.in_ok-after.ensures

pub returns : goal.returns
returns g c = let m = c.args.self.now in lines_done _ _ _ [] _ _ (maps-many m.width m.height m.bytes.now) c.loop-r.invariant c.loop-r-test.false
