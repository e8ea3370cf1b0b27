-- `seam_find_kept::down::first_sums` meets its contract: the costs of row 0 are put between the fences.
use Rattle.std.proofs.Common.{min, arith}
use Rattle.seam_sums.specs.Fences.{fence32}
use Rattle.seam_find_kept.proofs.Stored.{stride-parts, row-made}
use Rattle.seam_find_kept.proofs.down.first_sums.Goals as goal

pub returns : goal.returns
returns g c =
    let S = g.S.Sum in
    let left-was = c.split_at_mut-left.ensures in
    let next-was = c.split_at_mut-next.ensures in
    row-made c.bytes.ensures.laws (min S.most fence32) c.args.width c.put_fences.new.left c.first_row.new.next c.put_fences.new.right _
    (omega (arith, c.put_fences.auto.left, left-was.front_len, c.bytes.ensures.one))
    (omega (arith, c.first_row.auto.next, next-was.front_len, c.row_bytes.ensures.all))
    (omega (
      arith,
      c.put_fences.auto.right,
      left-was.back_len,
      next-was.back_len,
      c.bytes.ensures.one,
      c.row_bytes.ensures.all,
      c.requires.room,
      stride-parts c.args.width S.bytes,
    ))
    c.put_fences.ensures.left
    c.first_row.ensures
    c.put_fences.ensures.right
