-- Laws of a row that is closed in place.
use mathlib.Core.Path.{◌≡◌}
use mathlib.Core.List.{List, ◌++◌}
use Prim.Native.Nat.{ℕ, ◌+◌, ◌-◌, ◌≤◌}
use native.Mathlib.Omega.{arith}
use lib.ListN.{length, take, drop, length-append, length-drop}
use lib.Seq.{length-take-le}
use Rattle.seam_planes.specs.Inner.{closed}

pub length_closed : (n gap : ℕ) (row : List ℕ) → gap + n ≤ length row → length (closed n gap row) ≡ length row
length_closed n gap row inside =
    omega (
      arith,
      length-append (take gap row) (drop (gap + n) row ++ drop (length row - n) row),
      length-append (drop (gap + n) row) (drop (length row - n) row),
      length-drop (gap + n) row,
      length-drop (length row - n) row,
      length-take-le gap row (omega arith),
    )
