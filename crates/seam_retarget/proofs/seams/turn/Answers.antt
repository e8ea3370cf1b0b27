-- `seam_retarget::seams::turn` meets its contract.
use Rattle.std.proofs.Common.{ℕ, get_or, arith, rules, Fits, w8}
use Rattle.seam_moves.proofs.Served.{exchange-between-served}
use Rattle.seam_turn.specs.Axes.{turned}
use Rattle.seam_retarget.proofs.Steps.{copied-turned}
use Rattle.seam_retarget.proofs.seams.turn.Goals as goal

pub returns-in-Vertical : goal.returns-in-Vertical
returns-in-Vertical c =
    let a = c.args in
    let all = c.picture_bytes in
    let copied = c.copy_between in
    let fits : (i : ℕ) → Fits w8 (get_or a.work.now i 0) = search rules in
    rw c.in-Vertical.is (copied-turned a.work.now copied.new.space (λ i. omega (arith, fits i)) a.from a.size.size a.to all.result copied.result c.requires all.ensures.0 copied.ensures)

pub returns-in-Horizontal : goal.returns-in-Horizontal
unfolding turned
returns-in-Horizontal c =
    let a = c.args in
    let exchanged = c.exchange_between in
    rw c.in-Horizontal.is
    (exchange-between-served a.work.now a.from a.size.size a.to exchanged.result exchanged.new.space exchanged.ensures a.size.allowed c.requires)
