-- `seam_find_kept::sums::U32Sum::at` meets its contract: a number that there is has its four bytes.
use Rattle.std.proofs.Common.{arith}
use Rattle.seam_find_kept.proofs.FourBytes.{length-words}
use Rattle.seam_find_kept.proofs.sums.U32Sum.at.Goals as goal

pub word_at-requires : goal.word_at-requires
word_at-requires c = omega (arith, length-words c.args.row.now, c.requires)
