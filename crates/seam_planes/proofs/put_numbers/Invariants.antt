-- `seam_planes::put_numbers` meets its contract. The loop's invariant: the lower two bytes of the first c numbers are put.
use Prim.Native.Nat.{◌≤◌}
use mathlib.Core.Path.{◌≡◌}
use lib.ListN.{length}
use Rattle.grids.proofs.Filled.{Filled}
use Rattle.seam_planes.proofs.Numbers.{lower}
use Rattle.seam_planes.proofs.put_numbers.Given as goal

abbrev pub invariant-loop-c : goal.invariant-loop-c
invariant-loop-c l = record {
  within : l.c ≤ length l.numbers;
  long : length l.row ≡ length l.initial.row;
  put : Filled (lower l.numbers) 2 l.initial.row l.c l.row;
}
