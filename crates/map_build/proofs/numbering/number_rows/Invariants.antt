-- `map_build::numbering::number_rows` meets its contract. The invariant: the rows done and the rows to come make the answer.
use mathlib.Core.Path.{◌≡◌}
use Prim.Native.Nat.{◌*◌}
use lib.ListN.{length}
use Rattle.map_build.specs.Inner.Columns.{put_pair, put_rows, taken_columns}
use Rattle.map_build.proofs.Turns.{RowsSoFar}
use Rattle.map_build.proofs.numbering.number_rows.Given as goal

abbrev pub invariant-loop-r : goal.invariant-loop-r
invariant-loop-r l =
    (length l.map ≡ length l.initial.map)
    × RowsSoFar (put_pair l.number) 0 (taken_columns l.stride l.columns l.seam) (put_rows l.number l.stride (taken_columns l.stride l.columns l.seam) l.initial.map) (2 * l.stride) l.r l.map
