-- `seam_planes::packing::pack_rows` meets its contract. The loop's invariant: the fronts of r rows stand at the front, and after them
-- what stood there.
use Prim.Native.Nat.{◌*◌, ◌≤◌}
use mathlib.Core.Path.{◌≡◌}
use lib.ListN.{length}
use Rattle.pictures.specs.Pictures.{largest_side}
use Rattle.grids.proofs.Filled.{Filled}
use Rattle.seam_planes.proofs.Packed.{packed_row}
use Rattle.seam_planes.proofs.packing.pack_rows.Given as goal

abbrev pub invariant-loop-r : goal.invariant-loop-r
invariant-loop-r l = record {
  within : l.r ≤ l.height;
  long : length l.plane ≡ length l.initial.plane;
  line_long : length l.line ≡ 6 * largest_side;
  packed : Filled (packed_row l.stride l.kept l.initial.plane) l.kept l.initial.plane l.r l.plane;
}
