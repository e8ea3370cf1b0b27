-- `text_scan::count_lines` meets its contract. The invariant is `Lining`: n lines were read, and what is left adds to them. What
-- falls is the number of bytes left.
use Rattle.std.proofs.Common.{◌-◌, length}
use Rattle.text_theory.specs.Files.{begun}
use Rattle.text_scan.proofs.Counting.{Lining}
use Rattle.text_scan.proofs.count_lines.Given as goal

abbrev pub invariant-loop-c : goal.invariant-loop-c
invariant-loop-c l = Lining (begun l.name) l.what l.width l.text l.initial.here.at l.n l.full l.here.at

abbrev pub decreases-loop-c : goal.decreases-loop-c
decreases-loop-c l = length l.text - l.here.at
