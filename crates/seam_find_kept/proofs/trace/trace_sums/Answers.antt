-- `seam_find_kept::trace::trace_sums` meets its contract: a column more of the path is stored, and the one above it is found. The
-- loop's invariant: the path's columns in the rows below i are stored, and c is its column in row i. The measure is i.
use Rattle.std.proofs.Common.{◌≡◌, ◌+◌, ◌-◌, ◌*◌, ◌<◌, take, drop, length, get_or, refl, sym, ap, ◌∙◌, arith}
use mathlib.Core.Bool.{false}
use mathlib.Core.List.{List}
use Prim.Native.Nat.{ℕ}
use Rattle.grids.specs.Table.{table}
use Rattle.grids.specs.Rows.{flat}
use native.Mathlib.Nat.{add-sub_cancel_left}
use Rattle.pictures.specs.Limits.{most_side}
use Rattle.pictures.proofs.Limits.{sides_are}
use Rattle.seam_theory.specs.Sums.{CostRows, came_from, sums_down, ways_up, columns_to}
use Rattle.seam_theory.proofs.Sums.{ways_at_lem}
use Rattle.seam_sums.specs.Fences.{fence32}
use Rattle.seam_find.proofs.Loops.{back_start, back_turn, back_end, length_columns}
use Rattle.seam_find_kept.specs.Finding.{costs_in}
use Rattle.seam_find_kept.proofs.KeptRows.{kept-cheap}
use Rattle.seam_find_kept.proofs.Downward.{column-inside, column-bottom}
use Rattle.seam_find_kept.proofs.WayBack.{sum-next, sum-falls}
use Rattle.seam_find_kept.proofs.trace.trace_sums.Goals as goal

abbrev ways_of : (ℕ → CostRows) → ℕ → ℕ → List ℕ
ways_of k w h = flat (table (ways_up false fence32 w k) (h - 1))

pub loop-i-init : goal.loop-i-init
loop-i-init g c =
    let a = c.args in
    let k = costs_in a.method.energy a.size a.width a.costs.up.now a.costs.left.now a.costs.right.now in
    let w = a.width in
    let h = a.size.height in
    let S = g.S.Sum in
    let n = c.requires in
    let ways = ways_of k w h in
    let some = (sides_are a.size n.planes.sides).height_some in
    let cheap = kept-cheap a.method.energy a.size w a.costs.up.now a.costs.left.now a.costs.right.now n.planes in
    let column = column-bottom S.bytes S.most S.held k a.size w a.sums.now a.column cheap n.planes.some n.rows n.enough in
    let low : get_or (sums_down false fence32 w k (h - 1)) a.column 0 < S.most =
    omega (arith, ap (λ c. get_or (sums_down false fence32 w k (h - 1)) c 0) column, n.enough) in (
      back_start ways a.seam.now (columns_to ways w (h - 1) a.column) w h (h - 1) a.column refl (omega (arith, some))
          (column-inside S.bytes S.most S.held k a.size w a.sums.now a.column cheap n.planes.some n.rows),
      low,
    )

pub step_up-c-requires-clause-row : goal.step_up-c-requires-clause-row
step_up-c-requires-clause-row g c =
    let a = c.args in
    let k = costs_in a.method.energy a.size a.width a.costs.up.now a.costs.left.now a.costs.right.now in
    let w = a.width in
    let l = c.loop-i in
    let S = g.S.Sum in
    let b = l.invariant.0 in
    let stride = c.row_bytes-stride.result in
    let at = (l.i - 1) * stride in
    let here : l.i - 1 + 1 ≡ l.i = omega (arith, c.loop-i-test.true) in
    let cheap = kept-cheap a.method.energy a.size w a.costs.up.now a.costs.left.now a.costs.right.now c.requires.planes in
    let few : l.i - 1 < most_side = omega (arith, b.row, (sides_are a.size c.requires.planes.sides).height_small) in
    let low : get_or (sums_down false fence32 w k (l.i - 1 + 1)) l.c 0 < S.most = rw here l.invariant.1 in
    record {
      inside = omega (arith, here, b.row);
      column = b.column;
      sums =
          ap (λ m. S.held (take m (drop at a.sums.now))) (add-sub_cancel_left at stride)
          ∙ ap (λ s. S.held (take s (drop ((l.i - 1) * s) a.sums.now))) c.row_bytes-stride.ensures.all
          ∙ c.requires.rows.rows (l.i - 1) (omega (arith, b.row));
      low = omega (arith, sum-next k w (l.i - 1) l.c cheap few b.column, low);
    }

pub loop-i-preserved : goal.loop-i-preserved
loop-i-preserved g c =
    let a = c.args in
    let k = costs_in a.method.energy a.size a.width a.costs.up.now a.costs.left.now a.costs.right.now in
    let w = a.width in
    let h = a.size.height in
    let ways = ways_of k w h in
    let l = c.loop-i in
    let b = l.invariant.0 in
    let room : l.i < length a.seam.now = omega (arith, c.requires.seam_room.seam_room, b.row) in
    let here : l.i - 1 + 1 ≡ l.i = omega arith in
    let way = ways_at_lem false fence32 w (h - 1) k (l.i - 1) l.c (omega (arith, b.row)) b.column in
    let up = c.step_up-c.ensures ∙ ap (came_from w l.c) (sym way) in
    let cheap = kept-cheap a.method.energy a.size w a.costs.up.now a.costs.left.now a.costs.right.now c.requires.planes in
    let few : l.i - 1 < most_side = omega (arith, b.row, (sides_are a.size c.requires.planes.sides).height_small) in
    let low : get_or (sums_down false fence32 w k (l.i - 1 + 1)) l.c 0 < g.S.Sum.most = rw here l.invariant.1 in (
      rw (here, up) (back_turn ways a.seam.now (columns_to ways w (h - 1) a.column) w h l.i l.c l.seam c.loop-i-test.true room b),
      omega (
        arith,
        ap (λ v. get_or (sums_down false fence32 w k (l.i - 1)) v 0) c.step_up-c.ensures,
        sum-falls k w (l.i - 1) l.c cheap few b.column,
        low,
      ),
    )

pub returns : goal.returns
returns g c =
    let a = c.args in
    let k = costs_in a.method.energy a.size a.width a.costs.up.now a.costs.left.now a.costs.right.now in
    let w = a.width in
    let h = a.size.height in
    let ways = ways_of k w h in
    let path = columns_to ways w (h - 1) a.column in
    let l = c.loop-i in
    let some = (sides_are a.size c.requires.planes.sides).height_some in
    let long = length_columns ways a.seam.now path w h (h - 1) a.column in
    back_end ways a.seam.now path w h l.i l.c l.seam (omega arith) (omega (arith, c.requires.seam_room.seam_room, some))
    (omega (arith, some, long)) l.invariant.0
