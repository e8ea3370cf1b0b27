-- `map_check::seams::fill_columns` meets its contract. The invariant: of each number that stands once among the first c of the row,
-- the column is stored.
use mathlib.Core.Path.{◌≡◌}
use Prim.Native.Nat.{◌≤◌}
use lib.ListN.{length}
use Rattle.map_check.proofs.Columns.{Held}
use Rattle.map_check.proofs.seams.fill_columns.Given as goal

abbrev pub invariant-loop-c : goal.invariant-loop-c
invariant-loop-c l =
    (l.c-end ≡ length l.row) × (l.c ≤ length l.row) × (length l.columns ≡ length l.initial.columns)
    × Held l.row l.c l.columns
