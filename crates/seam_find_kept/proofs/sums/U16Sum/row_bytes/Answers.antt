-- `seam_find_kept::sums::U16Sum::row_bytes` meets its contract: the laws of numbers of two bytes.
use Rattle.seam_find_kept.proofs.Widths.{pair-laws}
use Rattle.seam_find_kept.proofs.sums.U16Sum.row_bytes.Goals as goal

pub returns-clause-laws : goal.returns-clause-laws
returns-clause-laws c = pair-laws
