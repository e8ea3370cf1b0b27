-- `seam_objects::cut_seams` meets its contract. The loop's invariant: what stands in the buffers after `count` cuts. The measure is
-- the width.
use mathlib.Core.Path.{◌≡◌}
use lib.ListN.{length}
use Rattle.seam_objects.proofs.Seams.{Going}
use Rattle.seam_objects.proofs.cut_seams.Given as goal

abbrev pub invariant-loop-ended : goal.invariant-loop-ended
invariant-loop-ended l =
    Going l.size l.method l.initial.picture l.initial.marks l.budget l.width l.count l.picture l.marks
    × ((length l.picture ≡ length l.initial.picture)
    × ((length l.marks ≡ length l.initial.marks) × (length l.work ≡ length l.initial.work)))

abbrev pub decreases-loop-ended : goal.decreases-loop-ended
decreases-loop-ended l = l.width
