-- `seam_moves::columns::exchange_cells` meets its contract. The loop's invariant: c columns stand at the front of the space as
-- rows, and after them stands what stood there.
use mathlib.Core.Path.{◌≡◌, ◌∙◌}
use Prim.Native.Nat.{◌+◌, ◌-◌, ◌*◌}
use native.Mathlib.Omega.{arith}
use borrow.Rule.Slice.PartMut.{same_len_mid}
use Rattle.seam_moves.proofs.Exchanging.{columns-turn, columns_end}
use Rattle.seam_moves.proofs.columns.exchange_cells.Goals as goal

pub loop-c-preserved : goal.loop-c-preserved
loop-c-preserved g c =
    let l = c.loop-c in
    let a = c.args in
    let s = a.height * g.row.N in
    let put = c.put_cells in
    record {
      within = omega arith;
      long = same_len_mid (l.c * s) (l.c * s + s - l.c * s) l.to put.new.out put.auto.out ∙ l.invariant.long;
      filled = columns-turn g.row.N a.width a.height a.from.now a.to.now c.requires l.c l.to c.loop-c-test.true l.invariant.long put.new.out l.invariant.filled put.ensures;
    }

pub returns : goal.returns
returns g c =
    let l = c.loop-c in
    let a = c.args in
    let e : l.c ≡ a.width = omega arith in
    columns_end g.row.N a.width a.height a.from.now a.to.now c.requires l.to (rw e at l.invariant.filled)
