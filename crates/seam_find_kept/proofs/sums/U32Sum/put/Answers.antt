-- `seam_find_kept::sums::U32Sum::put` meets its contract: a number that there is has its four bytes.
use Rattle.std.proofs.Common.{arith}
use Rattle.seam_find_kept.proofs.FourBytes.{length-words}
use Rattle.seam_find_kept.proofs.sums.U32Sum.put.Goals as goal

pub put_word-requires : goal.put_word-requires
put_word-requires c = omega (arith, length-words c.args.row.now, c.requires)
