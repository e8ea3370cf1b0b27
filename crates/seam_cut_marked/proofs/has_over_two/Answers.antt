-- `seam_cut_marked::has_over_two` meets its contract.
use Rattle.std.proofs.Common.{◌≡◌, Bool, true, false, not, ◌||◌, List, ℕ, ◌+◌, ◌<◌, length, get_or, drop, refl, sym, ap, ◌∙◌, arith}
use mathlib.Core.Bool.{or-false}
use lib.Seq.{drop-length}
use Rattle.seam_bounds.specs.Moves.{outside}
use Rattle.seam_bounds.proofs.Moving.{outside-here, outside-next}
use Rattle.seam_rules.specs.Cuts.{mark_allowed}
use Rattle.seam_rules.proofs.Rooms.{mark_below, mark_over}
use Rattle.seam_cut_marked.proofs.has_over_two.Goals as goal

-- one turn
turn : (over allowed : Bool) (marks : List ℕ) (i : ℕ) → i < length marks → allowed ≡ mark_allowed (get_or marks i 0)
    → ((over || not allowed) || outside 3 (drop (i + 1) marks)) ≡ (over || outside 3 (drop i marks))
turn true allowed marks i h e = refl
turn false true marks i h e = outside-next 3 marks i h (mark_below (get_or marks i 0) (sym e))
turn false false marks i h e = sym (outside-here 3 marks i h (mark_over (get_or marks i 0) (sym e)))

pub loop-mark-preserved : goal.loop-mark-preserved
loop-mark-preserved c =
    let l = c.loop-mark in
    turn l.over c.allows_mark.result c.args.marks.now l.mark-index c.loop-mark-test.true c.allows_mark.ensures ∙ l.invariant

pub returns : goal.returns
unfolding outside
returns c =
    let l = c.loop-mark in
    let marks = c.args.marks.now in
    let end : l.mark-index ≡ length marks = omega (arith, c.loop-mark-test.false) in
    let none : outside 3 (drop l.mark-index marks) ≡ false = rw (end, drop-length marks) in
    sym (or-false l.over) ∙ ap (l.over ||◌) (sym none) ∙ l.invariant
