use Rattle.std.proofs.Common.{◌≡◌, ◌+◌, length, drop, [], set, ap, ◌∙◌, arith, append-nil, drop_of_length-le}
use Rattle.grids.proofs.Tables.{table_more}
use Rattle.file_build.proofs.MapRows.{run-table}
use Rattle.file_build.proofs.fitting.put_order.Goals as goal

pub loop-t-preserved : goal.loop-t-preserved
loop-t-preserved c =
    let at = c.loop-t in
    ap (λ l. set l at.t (at.t + 1)) at.invariant ∙ table_more (λ i. i + 1) c.args.row.now at.t 0 c.loop-t-test.true

pub returns : goal.returns
returns c =
    let row = c.args.row.now in
    let last : c.loop-t.t ≡ length c.args.row.now = omega arith in
    let rest : drop (length c.args.row.now) c.args.row.now ≡ [] = drop_of_length-le c.args.row.now (omega arith) in
    c.loop-t.invariant ∙ rw (last, rest, run-table (length row), append-nil)
