-- `seam_find_kept::words::word_at` meets its contract: a number is that of its four bytes.
use Rattle.std.proofs.Common.{sym}
use Rattle.seam_find_kept.proofs.FourBytes.{words_at}
use Rattle.seam_find_kept.proofs.words.word_at.Goals as goal

pub returns : goal.returns
returns c = rw (c.from-a.ensures, c.from-b.ensures, c.from-d.ensures, c.from-e.ensures) (sym (words_at c.args.row.now c.args.c c.requires))
