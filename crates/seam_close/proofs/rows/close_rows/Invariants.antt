-- `seam_close::rows::close_rows` meets its contract. The loop's invariant: r rows are closed and stand at the front of the
-- picture, and after them stands what stood there.
use mathlib.Core.Path.{◌≡◌}
use Prim.Native.Nat.{◌*◌, ◌≤◌}
use lib.ListN.{length}
use Rattle.pictures.specs.Pictures.{largest_side}
use Rattle.grids.proofs.Filled.{Filled}
use Rattle.seam_close.proofs.Closing.{closed_row}
use Rattle.seam_close.proofs.rows.close_rows.Given as goal

abbrev pub invariant-loop-r : goal.invariant-loop-r
invariant-loop-r l = record {
  within : l.r ≤ length l.seam;
  long : length l.rows ≡ length l.initial.rows;
  line_long : length l.line ≡ 6 * largest_side;
  closed : Filled (closed_row l.n l.stride l.initial.rows l.seam) l.kept l.initial.rows l.r l.rows;
}
