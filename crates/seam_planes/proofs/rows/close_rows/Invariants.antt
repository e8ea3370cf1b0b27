-- `seam_planes::rows::close_rows` meets its contract. The loop's invariant: r rows are closed, and after them stands what stood there.
use Prim.Native.Nat.{◌*◌, ◌≤◌}
use mathlib.Core.Path.{◌≡◌}
use lib.ListN.{length}
use Rattle.pictures.specs.Pictures.{largest_side}
use Rattle.grids.proofs.Filled.{Filled}
use Rattle.seam_planes.proofs.Cells.{closed_row}
use Rattle.seam_planes.proofs.rows.close_rows.Given as goal

abbrev pub invariant-loop-r : goal.invariant-loop-r
invariant-loop-r l = record {
  within : l.r ≤ length l.seam;
  long : length l.plane ≡ length l.initial.plane;
  line_long : length l.line ≡ 6 * largest_side;
  closed : Filled (closed_row l.n l.stride l.width l.seam l.initial.plane) (l.stride * l.n) l.initial.plane l.r l.plane;
}
