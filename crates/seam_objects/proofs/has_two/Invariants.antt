-- `seam_objects::has_two` meets its contract. The loop's invariant: what was seen, or the marks still to come, decides.
use mathlib.Core.Path.{◌≡◌}
use mathlib.Core.Bool.{◌||◌}
use lib.ListN.{drop}
use Rattle.seam_objects.specs.Objects.{some_two}
use Rattle.seam_objects.proofs.has_two.Given as goal

abbrev pub invariant-loop-mark : goal.invariant-loop-mark
invariant-loop-mark l = (l.some || some_two (drop l.mark-index l.marks)) ≡ some_two l.marks
