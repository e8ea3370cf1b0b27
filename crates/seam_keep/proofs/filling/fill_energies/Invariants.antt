-- `seam_keep::filling::fill_energies` meets its contract. The loop's invariant: r rows hold the energies of theirs.
use mathlib.Core.Path.{◌≡◌}
use lib.ListN.{length}
use Rattle.pictures.specs.Limits.{most_side}
use Rattle.energy.specs.declared.pixels.Step.TheVariants.{Up}
use Rattle.seam_keep.proofs.Costed.{Rows}
use Rattle.seam_keep.proofs.filling.fill_energies.Given as goal

abbrev pub invariant-loop-r : goal.invariant-loop-r
invariant-loop-r l = record { room : length l.row ≡ most_side; rows : Rows l.size l.method l.picture Up l.fn.up l.r l.up }
