-- `pictures::row` meets its contract: where the picture is served, row r of n ends within it.
use mathlib.Core.Path.{sym, ap, ◌∙◌}
use Prim.Native.Nat.{◌*◌}
use native.Mathlib.Nat.{add-sub_cancel_left}
use lib.ListN.{take, drop}
use Rattle.pictures.specs.Refusals.{given}
use Rattle.pictures.proofs.Buffers.{row-past, row_is}
use Rattle.pictures.proofs.row.Goals as goal

pub returns-then-size-r : goal.returns-then-size-r
returns-then-size-r c =
    let a = c.args in sym (row-past a.size a.picture.now a.r (sym c.judge_picture.ensures ∙ ap given c.in-Ok.is) c.if-size-r.true)

pub returns : goal.returns
returns c =
    let a = c.args in
    let s = a.size.width * c.pixel_bytes.result in
    ap (λ n. take n (drop (a.r * s) a.picture.now)) (add-sub_cancel_left (a.r * s) s)
    ∙ ap (λ n. take (a.size.width * n) (drop (a.r * (a.size.width * n)) a.picture.now)) c.pixel_bytes.ensures
    ∙ sym (row_is a.size a.picture.now a.r (sym c.judge_picture.ensures ∙ ap given c.in-Ok.is) c.if-size-r.false)
