-- `seam_planes::rows::close_rows` meets its contract. The loop's invariant: r rows are closed, and after them stands what stood there.
use Rattle.std.proofs.Common.{refl, ◌∙◌, arith, length, ◌-◌, ◌*◌, ◌+◌, ◌≡◌}
use borrow.Rule.Slice.PartMut.{same_len_mid, mid_len}
use Rattle.seam_planes.proofs.Cells.{row_most, row_sure, gap_sure, row_turn, rows_end}
use Rattle.seam_planes.proofs.rows.close_rows.Goals as goal

pub close_row-requires : goal.close_row-requires
close_row-requires c =
    let a = c.args in
    let l = c.loop-r in
    let u = row_sure c.requires l.r c.loop-r-test.true in
    let gap = gap_sure c.requires l.r c.loop-r-test.true in
    let at = l.r * (a.stride * a.n) in
    let row = mid_len at (at + a.width * a.n) l.plane (omega (arith, u.end, u.used, l.invariant.long)) in
    record { inside = omega (arith, gap, row); room = omega (arith, row, row_most c.requires, l.invariant.line_long) }

pub loop-r-preserved : goal.loop-r-preserved
loop-r-preserved c =
    let a = c.args in
    let l = c.loop-r in
    let at = l.r * (a.stride * a.n) in
    let end = at + a.width * a.n in
    record {
      within = omega arith;
      long = same_len_mid at (end - at) l.plane c.close_row.new.row c.close_row.auto.row ∙ l.invariant.long;
      line_long = c.close_row.ensures.line ∙ l.invariant.line_long;
      closed =
          row_turn c.requires l.r at end _ l.plane c.close_row.new.row c.loop-r-test.true l.invariant.long refl refl refl c.close_row.ensures.row l.invariant.closed;
    }

pub returns-clause-closed : goal.returns-clause-closed
returns-clause-closed c =
    let e : c.loop-r.r ≡ length c.args.seam.now = omega arith in
    rows_end c.requires c.loop-r.plane (rw e at c.loop-r.invariant.closed)
