-- `seam_find_kept::words::put_word` meets its contract: the four bytes are those of the number.
use Rattle.std.proofs.Common.{set, ap, ◌∙◌}
use Rattle.seam_find_kept.specs.Inner.Kept.{words_in}
use Rattle.seam_find_kept.proofs.FourBytes.{four_of, words-set}
use Rattle.seam_find_kept.proofs.words.put_word.Goals as goal

pub returns : goal.returns
returns c =
    let a = c.args in
    words-set a.row.now a.c _ _ _ _ c.requires ∙ ap (set (words_in a.row.now) a.c) (four_of a.n)
