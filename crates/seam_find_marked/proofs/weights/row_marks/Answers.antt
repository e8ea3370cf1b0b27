-- `seam_find_marked::weights::row_marks` meets its contract: row i's marks lie within the front.
use Rattle.std.proofs.Common.{◌+◌, ◌*◌, take, drop, ap, ◌∙◌}
use native.Mathlib.Nat.{add-sub_cancel_left}
use Rattle.seam_find_marked.proofs.weights.row_marks.Goals as goal

pub returns-clause-is : goal.returns-clause-is
returns-clause-is c =
    let a = c.args in
    let w = a.allowed.size.width in
    let from = c.picture_bytes.result + a.i * w in
    ap (λ n. take n (drop from a.bytes.now)) (add-sub_cancel_left from w)
    ∙ ap (λ b. take w (drop (b + a.i * w) a.bytes.now)) c.picture_bytes.ensures.0
