-- `seam_find::sums::next_row` meets its contract. The loop's invariant: the sums and the ways of the first c columns are
-- stored.
use Rattle.std.proofs.Common.{false, length}
use mathlib.Core.List.{map}
use Rattle.grids.proofs.Tables.{Stored}
use Rattle.seam_theory.specs.Sums.{alike_rows, way_of3}
use Rattle.seam_theory.proofs.Kept.{kept_sum}
use Rattle.seam_find.proofs.sums.next_row.Given as goal

abbrev pub invariant-loop-c : goal.invariant-loop-c
invariant-loop-c g l =
    let numbers = map g.N.Number.value in
    Stored (kept_sum g.N.Number.most (numbers l.above) (alike_rows (numbers l.cost))) (numbers l.initial.next) l.c-end l.c (numbers l.next)
    × Stored (way_of3 false (length l.initial.next) (numbers l.above) (alike_rows (numbers l.cost))) l.initial.ways l.c-end l.c l.ways
