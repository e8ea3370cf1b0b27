-- `map_check::recorded::RecordedMap::is_connected` meets its contract. The invariant of the loop over rows: `here` has the columns of
-- row r, and all seams are connected down to that row. Of the loop over seams: seams 1 to t - 1 are connected from row r to the next.
use mathlib.Core.Path.{◌≡◌}
use mathlib.Core.Bool.{true}
use lib.ListN.{length}
use Rattle.grids.specs.Rows.{row_at}
use Rattle.pictures.specs.Numbers.{numbers_in}
use Rattle.pictures.specs.Pictures.{largest_side}
use Rattle.map_check.specs.Inner.Columns.{ColumnsOf}
use Rattle.map_check.proofs.Steps.{Joined, JoinedHere}
use Rattle.map_check.proofs.recorded.RecordedMap.is_connected.Given as goal

abbrev pub invariant-rows : goal.invariant-rows
invariant-rows l =
    let ys = numbers_in l.self.bytes.now in
    (l.good ≡ true) × (length l.here ≡ largest_side) × (length l.next ≡ largest_side)
    × ColumnsOf (row_at l.self.width l.r ys) l.here × Joined ys l.self.width l.self.depth l.r

abbrev pub invariant-loop-t : goal.invariant-loop-t
invariant-loop-t l = (l.good ≡ true) × JoinedHere (numbers_in l.self.bytes.now) l.self.width l.r l.t
