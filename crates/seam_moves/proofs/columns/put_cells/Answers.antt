-- `seam_moves::columns::put_cells` meets its contract. The loop's invariant: r cells stand at the front of out.
use mathlib.Core.Path.{◌≡◌, ◌∙◌}
use Prim.Native.Nat.{◌+◌, ◌-◌, ◌*◌}
use native.Mathlib.Omega.{arith}
use borrow.Rule.Slice.PartMut.{same_len_mid}
use Rattle.seam_moves.proofs.Exchanging.{cell-turn, column_end}
use Rattle.seam_moves.proofs.columns.put_cells.Goals as goal

pub loop-r-preserved : goal.loop-r-preserved
loop-r-preserved g c =
    let a = c.args in
    let l = c.loop-r in
    let n = g.row.N in
    let put = c.put_cell in
    record {
      within = omega arith;
      long = same_len_mid (l.r * n) (l.r * n + n - l.r * n) l.out put.new.out put.auto.out ∙ l.invariant.long;
      filled = cell-turn n a.width a.height a.from.now a.c a.out.now c.requires l.r l.out c.loop-r-test.true l.invariant.long put.new.out l.invariant.filled put.ensures;
    }

pub returns : goal.returns
returns g c =
    let a = c.args in
    let l = c.loop-r in
    let e : l.r ≡ a.height = omega arith in
    column_end g.row.N a.width a.height a.from.now a.c a.out.now c.requires l.out (rw e at l.invariant.filled)
