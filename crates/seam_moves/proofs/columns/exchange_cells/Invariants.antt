-- `seam_moves::columns::exchange_cells` meets its contract. The loop's invariant: c columns stand at the front of the space as
-- rows, and after them stands what stood there.
use mathlib.Core.Path.{◌≡◌}
use Prim.Native.Nat.{◌≤◌}
use lib.ListN.{length}
use Rattle.grids.proofs.Filled.{Filled}
use Rattle.seam_moves.specs.Inner.{column_cells}
use Rattle.seam_moves.proofs.columns.exchange_cells.Given as goal

abbrev pub invariant-loop-c : goal.invariant-loop-c
invariant-loop-c g l = record {
  within : l.c ≤ l.fn.width;
  long : length l.to ≡ length l.initial.to;
  filled : Filled (column_cells g.row.N l.fn.width l.fn.height l.from) l.stride l.initial.to l.c l.to;
}
