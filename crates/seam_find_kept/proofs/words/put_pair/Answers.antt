-- `seam_find_kept::words::put_pair` meets its contract: the two bytes are those of the number.
use Rattle.std.proofs.Common.{set, ap, ◌∙◌}
use Rattle.pictures.specs.Numbers.{numbers_in}
use Rattle.pictures.proofs.TwoBytes.{two_bytes_lem, numbers-set}
use Rattle.seam_find_kept.proofs.words.put_pair.Goals as goal

pub returns : goal.returns
returns c =
    let a = c.args in
    numbers-set a.row.now a.c _ _ ∙ ap (set (numbers_in a.row.now) a.c) (two_bytes_lem a.n)
