-- `seam_keep::rows::put_where` meets its contract: two bytes put where a number stands are that number.
use Rattle.std.proofs.Common.{◌≡◌, ap, ◌∙◌, arith, ◌+◌, ◌-◌, ◌*◌, ◌/◌, ◌%◌, [], ◌∷◌}
use Rattle.seam_planes.proofs.Numbers.{pair, number_put}
use Rattle.seam_keep.proofs.rows.put_where.Goals as goal

pub returns-then-there : goal.returns-then-there
returns-then-there c =
    let a = c.args in
    let v = a.number % 65536 in
    let two : 2 * a.c + 2 - 2 * a.c ≡ 2 = omega arith in
    let high : v / 256 % 256 ≡ v / 256 = omega arith in
    let bytes : c.copy_from_slice.new.self ≡ pair v = c.copy_from_slice.ensures.after ∙ c.to_le_bytes.ensures ∙ ap (λ h. v % 256 ∷ h ∷ []) high in
    rw (two, c.if-there.true, bytes) (number_put a.c v a.row.now (c.requires c.if-there.true))
