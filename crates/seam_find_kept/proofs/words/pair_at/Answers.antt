-- `seam_find_kept::words::pair_at` meets its contract: a number is that of its two bytes.
use Rattle.std.proofs.Common.{sym, ◌∙◌}
use Rattle.pictures.proofs.TwoBytes.{numbers_at}
use Rattle.seam_find_kept.proofs.words.pair_at.Goals as goal

pub returns : goal.returns
returns c = c.number.ensures.0 ∙ sym (numbers_at c.args.row.now c.args.c c.requires)
