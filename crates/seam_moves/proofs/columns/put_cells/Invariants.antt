-- `seam_moves::columns::put_cells` meets its contract. The loop's invariant: r cells stand at the front of out.
use mathlib.Core.Path.{◌≡◌}
use Prim.Native.Nat.{◌≤◌}
use lib.ListN.{length}
use Rattle.grids.proofs.Filled.{Filled}
use Rattle.seam_moves.proofs.Exchanging.{cell}
use Rattle.seam_moves.proofs.columns.put_cells.Given as goal

abbrev pub invariant-loop-r : goal.invariant-loop-r
invariant-loop-r g l = record {
  within : l.r ≤ l.fn.height;
  long : length l.out ≡ length l.initial.out;
  filled : Filled (cell g.row.N l.fn.width l.from l.c) g.row.N l.initial.out l.r l.out;
}
