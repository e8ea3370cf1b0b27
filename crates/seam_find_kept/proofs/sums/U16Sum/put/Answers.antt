-- `seam_find_kept::sums::U16Sum::put` meets its contract: a number that there is has its two bytes.
use Rattle.std.proofs.Common.{arith}
use Rattle.pictures.proofs.TwoBytes.{length-numbers}
use Rattle.seam_find_kept.proofs.sums.U16Sum.put.Goals as goal

pub put_pair-requires : goal.put_pair-requires
put_pair-requires c = omega (arith, length-numbers c.args.row.now, c.requires)
