-- `seam_find_kept::sums::U32Sum::bytes` meets its contract: the laws of numbers of four bytes.
use Rattle.seam_find_kept.proofs.Widths.{word-laws}
use Rattle.seam_find_kept.proofs.sums.U32Sum.bytes.Goals as goal

pub returns-clause-laws : goal.returns-clause-laws
returns-clause-laws c = word-laws
