-- `seam_keep::keep_costs` meets its contract: the plane is closed along the seam, and then the costs beside it are worked out anew.
use Rattle.std.proofs.Common.{rules, arith, ℕ, ◌+◌, ◌-◌, ◌≡◌, get_or, Fits, w8}
use Rattle.seam_keep.proofs.Kept.{closing, kept_numbers}
use Rattle.seam_keep.proofs.keep_costs.Goals as goal

pub returns-clause-kept : goal.returns-clause-kept
returns-clause-kept c asked =
    let a = c.args in
    let z = a.size in
    let s = a.seam.now in
    let fits : (i : ℕ) → Fits w8 (get_or a.picture.now i 0) = search rules in
    let less : a.width + 1 - 1 ≡ a.width = omega arith in
    let is = rw (asked.columns, less) at (c.close_numbers.ensures.closed (closing a.method a.from z a.width s a.picture.now _ _ asked)) in
    kept_numbers a.method a.from z a.width s a.picture.now a.plane.now c.close_numbers.new.plane asked (λ i. omega (arith, fits i)) c.close_numbers.ensures.long is c.refresh_rows.new.plane c.refresh_rows.ensures
