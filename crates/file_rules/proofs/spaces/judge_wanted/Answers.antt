-- `file_rules::spaces::judge_wanted` meets its contract: a width that is offered bounds what is shown.
use Rattle.std.proofs.Common.{sym, ◌∙◌, arith}
use Rattle.map_theory.proofs.Shown.{offered_is}
use Rattle.file_rules.proofs.Ranges.{Bounded, bounded}
use Rattle.file_rules.proofs.spaces.judge_wanted.Goals.{After-pixel_bytes}
use Rattle.file_rules.proofs.spaces.judge_wanted.Goals as goal

-- A width that no test refuses.
shown : (c : After-pixel_bytes) → Bounded c.args.head c.args.wanted
shown c =
    let h = c.args.head in
    bounded h c.args.wanted (record { sides = sym c.in_ok-allowed.ensures.number; range = sym c.is_allowed.ensures ∙ c.if-not-is_allowed.false })
    ((offered_is h.size.width h.depth h.growth c.args.wanted).0 (sym c.is_offered.ensures ∙ c.if-not-is_offered.false)).1

pub overflow_mul-wanted : goal.overflow_mul-wanted
overflow_mul-wanted c = rw c.pixel_bytes.ensures (omega (arith, (shown c).row_most))

pub overflow_mul-size : goal.overflow_mul-size
overflow_mul-size c = rw c.pixel_bytes.ensures (omega (arith, (shown (goal.at.overflow_mul-size c).After-pixel_bytes).shown_most))
