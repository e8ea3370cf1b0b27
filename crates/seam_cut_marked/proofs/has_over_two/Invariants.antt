-- `seam_cut_marked::has_over_two` meets its contract. The loop's invariant: what was seen, or the marks still to come, decides.
use mathlib.Core.Path.{◌≡◌}
use mathlib.Core.Bool.{◌||◌}
use lib.ListN.{drop}
use Rattle.seam_bounds.specs.Moves.{outside}
use Rattle.seam_cut_marked.proofs.has_over_two.Given as goal

abbrev pub invariant-loop-mark : goal.invariant-loop-mark
invariant-loop-mark l = (l.over || outside 3 (drop l.mark-index l.marks)) ≡ outside 3 l.marks
