-- `seam_find::find_by` meets its contract: what the least sum means says whether the path traced back is given. There is one,
-- since the ways were worked out.
use Rattle.std.proofs.Common.{ℕ, get_or, sym, ◌∙◌, arith, Fits, w8, rules}
use Rattle.seam_find.proofs.Found.{find_by-given, ok-served, err-served}
use Rattle.seam_find.proofs.find_by.Goals as goal
use Rattle.seam_find.proofs.find_by.Goals.{then-is_ok, else-is_ok}

pub returns : goal.returns
returns g c =
    let front = c.front_bytes-front in
    let f = c.find_bottom-bottom in
    let allowed = c.in_ok-allowed.ensures in
    let found = c.found-found in
    let fits : (i : ℕ) → Fits w8 (get_or c.args.space.now i 0) = search rules in
    find_by-given front.ensures.laws g.C.Costing.means c.args.seam.now (sym allowed.number) allowed.same front.ensures.bytes f.auto.space f.ensures
    (λ i. omega (arith, fits i))
    found.result found.ensures c.clear.new.space c.clear.ensures c.if-is_ok.seam
    (elim c.if-is_ok.branch [
      | then-is_ok w ↦ w.seam-is ∙ w.trace_back.ensures ∙ sym (ok-served found.result c.is_ok.result c.is_ok.ensures.value w.if-is_ok.true _ _)
      | else-is_ok w ↦ w.seam-is ∙ sym (err-served found.result c.is_ok.result c.is_ok.ensures.value w.if-is_ok.false _ _)
    ])
