-- `seam_find_kept::rows::first_row` meets its contract. The loop's invariant: the costs of the first c columns are stored.
use Rattle.pictures.specs.Numbers.{numbers_in}
use Rattle.grids.proofs.Tables.{Copied}
use Rattle.seam_find_kept.proofs.rows.first_row.Given as goal

abbrev pub invariant-loop-c : goal.invariant-loop-c
invariant-loop-c g l = Copied (numbers_in l.cost) (g.S.Sum.held l.initial.next) 0 l.width l.c (g.S.Sum.held l.next)
