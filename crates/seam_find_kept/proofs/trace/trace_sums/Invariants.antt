-- `seam_find_kept::trace::trace_sums` meets its contract. The loop's invariant: the path's columns in the rows below i are stored, c is
-- its column in row i, and the sum there is below the largest. The measure is i.
use Rattle.std.proofs.Common.{◌<◌, ◌-◌, get_or}
use mathlib.Core.Bool.{false}
use Rattle.grids.specs.Table.{table}
use Rattle.grids.specs.Rows.{flat}
use Rattle.seam_sums.specs.Fences.{fence32}
use Rattle.seam_theory.specs.Sums.{sums_down, ways_up, columns_to}
use Rattle.seam_find.proofs.Loops.{Back}
use Rattle.seam_find_kept.specs.Finding.{costs_in}
use Rattle.seam_find_kept.proofs.trace.trace_sums.Given as goal

abbrev pub invariant-loop-i : goal.invariant-loop-i
invariant-loop-i g l =
    let k = costs_in l.method.energy l.size l.width l.costs.up.now l.costs.left.now l.costs.right.now in
    let ways = flat (table (ways_up false fence32 l.width k) (l.size.height - 1)) in
    Back ways l.initial.seam (columns_to ways l.width (l.size.height - 1) l.column) l.width l.size.height l.i l.c l.seam
    × (get_or (sums_down false fence32 l.width k l.i) l.c 0 < g.S.Sum.most)
