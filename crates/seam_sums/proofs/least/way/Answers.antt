-- `seam_sums::least::way` meets its contract: each return by the law of its tests.
use Rattle.std.proofs.Common.{sym, ◌∙◌}
use borrow.Author.Tests.{leb-true, leb-false}
use Rattle.seam_sums.proofs.Turns.{way_left, way_middle, way_right}
use Rattle.seam_sums.proofs.least.way.Goals as goal

pub returns-then-is_at_most : goal.returns-then-is_at_most
returns-then-is_at_most g c = way_left _ _ _ _ c.lesser.ensures (leb-true _ _ (sym c.is_at_most.ensures ∙ c.if-is_at_most.true))

pub returns-then-is_at_most-2 : goal.returns-then-is_at_most-2
returns-then-is_at_most-2 g c =
    way_middle _ _ _ _ c.lesser.ensures (leb-false _ _ (sym c.is_at_most.ensures ∙ c.if-is_at_most.false))
    (leb-true _ _ (sym c.is_at_most-else-is_at_most.ensures ∙ c.if-is_at_most-2.true))

pub returns-else-is_at_most-2 : goal.returns-else-is_at_most-2
returns-else-is_at_most-2 g c =
    way_right _ _ _ _ c.lesser.ensures (leb-false _ _ (sym c.is_at_most.ensures ∙ c.if-is_at_most.false))
    (leb-false _ _ (sym c.is_at_most-else-is_at_most.ensures ∙ c.if-is_at_most-2.false))
