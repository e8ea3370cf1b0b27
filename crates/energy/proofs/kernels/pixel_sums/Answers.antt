-- `energy::kernels::pixel_sums` meets its contract: each turn stores the sum of one pixel.
use Rattle.std.proofs.Common.{List, ℕ, ◌+◌, ◌*◌, ap, ap₂, take, drop, sum, ◌∙◌}
use native.Mathlib.Nat.{add-sub_cancel_left}
use Rattle.grids.proofs.Tables.{stored_turn}
use Rattle.energy.specs.Inner.{two_sums}
use Rattle.energy.proofs.kernels.pixel_sums.Goals as goal

pub loop-c-preserved : goal.loop-c-preserved
loop-c-preserved g c =
    let a = c.args in
    let l = c.loop-c in
    let n = g.row.N in
    let at = l.c * n in
    let pixel = λ (x : List ℕ). ap (λ m. sum (take m (drop at x))) (add-sub_cancel_left at n) in
    stored_turn (two_sums n a.first.now a.second.now) a.out.now _ l.c l.out _ 0 c.loop-c-test.true
    (ap₂ ◌+◌ (c.total.ensures.0 ∙ pixel a.first.now) (c.total-in-loop-c.ensures.0 ∙ pixel a.second.now)) l.invariant
