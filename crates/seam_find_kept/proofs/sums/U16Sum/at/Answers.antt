-- `seam_find_kept::sums::U16Sum::at` meets its contract: a number that there is has its two bytes.
use Rattle.std.proofs.Common.{arith}
use Rattle.pictures.proofs.TwoBytes.{length-numbers}
use Rattle.seam_find_kept.proofs.sums.U16Sum.at.Goals as goal

pub pair_at-requires : goal.pair_at-requires
pair_at-requires c = omega (arith, length-numbers c.args.row.now, c.requires)
