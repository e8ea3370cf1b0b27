-- `map_check::seams::left_in` meets its contract. The invariant: what was counted and what is to come make the count.
use mathlib.Core.Path.{◌≡◌}
use Prim.Native.Nat.{◌+◌, ◌≤◌}
use lib.ListN.{length, drop}
use Rattle.map_check.specs.Inner.Columns.{left_in}
use Rattle.map_check.proofs.seams.left_in.Given as goal

abbrev pub invariant-loop-v : goal.invariant-loop-v
invariant-loop-v l =
    (l.v-index-end ≡ length l.part) × (l.v-index ≤ length l.part) × (l.left ≤ l.v-index)
    × (l.left + left_in l.t (drop l.v-index l.part) ≡ left_in l.t l.part)
