-- `seam_find_kept::rows::row_by_one` meets its contract. The loop's invariant: the sums of the first c columns are stored.
use Rattle.grids.proofs.Tables.{Stored}
use Rattle.pictures.specs.Numbers.{numbers_in}
use Rattle.seam_theory.specs.Sums.{alike_rows}
use Rattle.seam_theory.proofs.Kept.{kept_sum}
use Rattle.seam_find_kept.proofs.rows.row_by_one.Given as goal

abbrev pub invariant-loop-c : goal.invariant-loop-c
invariant-loop-c g l =
    let held = g.S.Sum.held in
    Stored (kept_sum g.S.Sum.most (held l.above) (alike_rows (numbers_in l.cost))) (held l.initial.next) l.width l.c (held l.next)
