-- What a removal leaves, after how many cuts, and why it ended.
use mathlib.Core.Path.{◌≡◌, refl, ap, ◌∙◌}
use mathlib.Core.Logic.{⊎_elim}
use mathlib.Core.Bool.{false}
use Prim.Native.Nat.{ℕ, zero, suc, ◌+◌, ◌-◌, ◌≤◌, ◌<◌}
use native.Mathlib.Nat.{eq-or-lt_of_le}
use native.Mathlib.Omega.{arith}
use Rattle.grids.proofs.Orders.{more_than_one}
use Rattle.seam_objects.specs.Objects.{MarkedPicture, to_remove, cut_once, after_cuts, removal}
use Rattle.seam_rules.specs.declared.answers.Ending.TheVariants.{Done}
use Rattle.seam_objects.specs.Endings.{LeftShaped, Reason, Due}
use Rattle.seam_objects.proofs.Shapes.{shaped_cut}
use Rattle.seam_objects.proofs.Endings.{by-steps}

-- "The buffers hold the picture and marks after that many."
pub left-carved : (b : ℕ) (s : MarkedPicture) → (removal b 0 s).left ≡ after_cuts (removal b 0 s).count s
unfolding after_cuts
left-carved b s =
    by-steps
    (λ b n t r. t ≡ after_cuts n s → r.left ≡ after_cuts r.count s)
    (λ b n t _ e. e)
    (λ b n t _ _ e. e)
    (λ n t _ _ e. e)
    (λ b n t _ _ _ e. e)
    (λ b n t r _ _ _ next e. next (ap cut_once e))
    b
    0
    s
    refl

-- The width left is the width less the count; the height stays.
pub carved_width : (n : ℕ) (s : MarkedPicture) → (after_cuts n s).width ≡ s.width - n
unfolding after_cuts cut_once
carved_width zero s = omega arith
carved_width (suc n) s = omega (arith, carved_width n s)

pub carved_height : (n : ℕ) (s : MarkedPicture) → (after_cuts n s).height ≡ s.height
unfolding after_cuts cut_once
carved_height zero s = refl
carved_height (suc n) s = carved_height n s

pub width_left : (b : ℕ) (s : MarkedPicture) → (removal b 0 s).left.width ≡ s.width - (removal b 0 s).count
width_left b s = ap (λ t. t.width) (left-carved b s) ∙ carved_width (removal b 0 s).count s

-- The count never exceeds the budget,
pub count_budget : (b : ℕ) (s : MarkedPicture) → (removal b 0 s).count ≤ b
count_budget b s =
    let most = by-steps (λ b n t r. r.count ≤ n + b) (λ b n t _. omega arith) (λ b n t _ _. omega arith) (λ n t _ _. omega arith) (λ b n t _ _ _. omega arith) (λ b n t r _ _ _ next. omega (arith, next)) b 0 s in
    omega (arith, most)

-- and at least one column is left.
pub count_width : (b : ℕ) (s : MarkedPicture) → 0 < s.width → (removal b 0 s).count ≤ s.width - 1
unfolding cut_once
count_width b s h =
    let most = by-steps (λ b n t r. 0 < t.width → r.count < n + t.width) (λ b n t _ h. omega arith) (λ b n t _ _ h. omega arith) (λ n t _ _ h. omega arith) (λ b n t _ _ _ h. omega arith) (λ b n t r _ wide _ next h. let two = more_than_one t.width h wide in omega (arith, two, next (omega (arith, two)))) b 0 s h in
    omega (arith, most)

-- The ending is given for its reason.
pub ending_reason : (b : ℕ) (s : MarkedPicture) → Reason (removal b 0 s).ending b (removal b 0 s)
ending_reason b s =
    by-steps
    (λ b n t r. (all : ℕ) → all ≡ n + b → Reason r.ending all r)
    (λ b n t e all a. e)
    (λ b n t e one all a. (e, one))
    (λ n t e wide all a. (e, (wide, omega arith)))
    (λ b n t e wide g all a. (e, (wide, (omega arith, g))))
    (λ b n t r e wide g next all a. next all (omega arith))
    b
    0
    s
    b
    (omega arith)

-- "Done" leaves no pixel marked 2.
pub done_clean : (b : ℕ) (s : MarkedPicture) → (removal b 0 s).ending ≡ Done → to_remove (removal b 0 s).left ≡ false
done_clean b s e = rw e at (ending_reason b s)

-- Before each of the cuts none of the endings applied.
pub cut_due : (b : ℕ) (s : MarkedPicture) (k : ℕ) → k < (removal b 0 s).count → Due (after_cuts k s)
unfolding after_cuts
cut_due b s k h =
    by-steps
    (λ b n t r. t ≡ after_cuts n s → n ≤ k → k < r.count → Due (after_cuts k s))
    (λ b n t _ e l h. absurd (omega arith))
    (λ b n t _ _ e l h. absurd (omega arith))
    (λ n t _ _ e l h. absurd (omega arith))
    (λ b n t _ _ _ e l h. absurd (omega arith))
    (λ b n t r m w g next e l h.
    ⊎_elim
    (λ (q : n ≡ k). rw (← q, ← e) (record { marked = m; wide = w; allowed = g }))
    (λ (q : n < k). next (ap cut_once e) q h)
    (eq-or-lt_of_le l))
    b
    0
    s
    refl
    (omega arith)
    h

-- The marks left are marks, and picture and marks have the width left.
pub left_shaped : (ch b : ℕ) (s : MarkedPicture) → 0 < s.width → LeftShaped ch s → LeftShaped ch (removal b 0 s).left
unfolding cut_once
left_shaped ch b s =
    by-steps
    (λ b n t r. 0 < t.width → LeftShaped ch t → LeftShaped ch r.left)
    (λ b n t _ h k. k)
    (λ b n t _ _ h k. k)
    (λ n t _ _ h k. k)
    (λ b n t _ _ _ h k. k)
    (λ b n t r _ w g next h k. let two = more_than_one t.width h w in next (omega (arith, two)) (shaped_cut ch t k two g))
    b
    0
    s
