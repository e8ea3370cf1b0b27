-- `seam_turn::turn` meets its contract: `judge_exchange` gives the number for either axis, and where it is 0, a vertical seam's
-- picture is copied, which is the picture turned.
use mathlib.Core.Path.{◌≡◌, sym, ap₂, ◌∙◌}
use mathlib.Core.List.{◌++◌}
use native.Mathlib.Omega.{arith}
use lib.ListN.{length, drop}
use Rattle.pictures.specs.Refusals.{refusal}
use Rattle.pictures.specs.Pictures.{picture_bytes}
use Rattle.pictures.proofs.Limits.{sized_is}
use Rattle.pictures.proofs.Buffers.{bytes-picture}
use Rattle.seam_bounds.specs.Moves.{exchange_rules}
use Rattle.seam_moves.proofs.Exchanging.{exchange_needed}
use Rattle.seam_turn.specs.Axes.{turned}
use Rattle.seam_turn.proofs.turn.Goals as goal

pub returns-in_ok-judge_exchange-in-Vertical : goal.returns-in_ok-judge_exchange-in-Vertical
unfolding turned
returns-in_ok-judge_exchange-in-Vertical c =
    let a = c.args in
    let z = a.size in
    let b = a.picture.now in
    -- no rule applies
    let none : refusal (exchange_rules z (length b) (length a.to.now)) ≡ 0 = sym c.in_ok-judge_exchange-in-Vertical.ensures in
    let long : length b ≡ picture_bytes z = (sized_is z (length b) (exchange_needed b z a.to.now none).sized).length_is in
    rw c.in-Vertical.is
    (record {
      number = sym none;
      to_given = ap₂ (λ x n. x ++ drop n a.to.now) (c.copy_from_slice.ensures.after ∙ sym (bytes-picture z b long (λ i. omega (arith, c.type_inv.picture i)))) long;
    })

pub returns-in-Horizontal : goal.returns-in-Horizontal
unfolding turned
returns-in-Horizontal c = rw c.in-Horizontal.is (record { number = c.exchange.ensures.number; to_given = c.exchange.ensures.to_given })
