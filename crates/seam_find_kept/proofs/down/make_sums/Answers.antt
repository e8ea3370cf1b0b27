-- `seam_find_kept::down::make_sums` meets its contract: the costs of row 0 are its sums, and once all rows are stored, the
-- sums of the last one stand between its fences. The loop's invariant: the rows above row i are stored.
use Rattle.std.proofs.Common.{◌<◌, min, ap, ◌∙◌, arith}
use mathlib.Core.Bool.{false}
use Prim.Native.Nat.{ℕ}
use Rattle.pictures.proofs.Limits.{sides_are}
use Rattle.seam_theory.specs.Sums.{fenced}
use Rattle.seam_sums.specs.Fences.{fence32}
use Rattle.seam_find_kept.proofs.PlaneRows.{costs_end, sums_end}
use Rattle.seam_find_kept.proofs.KeptRows.{kept-cheap, front-costs}
use Rattle.seam_find_kept.proofs.Downward.{row-first, last-column}
use Rattle.seam_find_kept.proofs.down.make_sums.Goals as goal

pub first_sums-requires-clause-costs : goal.first_sums-requires-clause-costs
first_sums-requires-clause-costs g c = costs_end c.requires.planes

pub first_sums-requires-clause-room : goal.first_sums-requires-clause-room
first_sums-requires-clause-room g c = sums_end c.requires.planes c.requires.space

pub loop-i-init : goal.loop-i-init
loop-i-init g c =
    let a = c.args in
    let k = a.costs in
    let n = c.requires.planes in
    let some = (sides_are a.size n.sides).height_some in
    let cheap = kept-cheap a.method.energy a.size a.width k.up.now k.left.now k.right.now n in
    let row =
    c.first_sums.ensures
    ∙ ap (fenced false (min g.S.Sum.most fence32) a.width)
    (front-costs a.method.energy a.size a.width k.up.now k.left.now k.right.now n.within some) in
    row-first c.row_bytes-stride.ensures.laws _ a.size a.width c.first_sums.new.sums cheap some
    (omega (arith, c.first_sums.auto.sums, c.requires.space.room)) row

pub returns : goal.returns
returns g c =
    let a = c.args in
    let k = a.costs in
    let l = c.loop-i in
    let n = c.requires.planes in
    let S = g.S.Sum in
    let cheap = kept-cheap a.method.energy a.size a.width k.up.now k.left.now k.right.now n in
    let rows = λ (r : ℕ) (h : r < a.size.height). l.invariant.rows r (omega (arith, h, c.loop-i-test.false)) in
    record {
      rows = rows;
      column_is =
          last-column S.bytes S.most S.held _ a.size a.width l.sums cheap rows (sides_are a.size n.sides).height_some c.least_column.result
          (rw c.row_bytes-stride.ensures.all at c.least_column.ensures);
    }
