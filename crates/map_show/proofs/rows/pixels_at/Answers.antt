-- `map_show::rows::pixels_at` meets its contract: no more numbers are counted than there are.
use Prim.Native.Nat.{◌≤◌}
use native.Mathlib.Omega.{arith}
use borrow.Author.Tests.{le-leb, lt-leb}
use lib.ListN.{length}
use Rattle.map_show.specs.Showing.{pixels_at}
use Rattle.map_show.proofs.Counts.{doubled-most}
use Rattle.map_show.proofs.rows.pixels_at.Goals as goal

pub overflow_sub-result : goal.overflow_sub-result
overflow_sub-result c = rw c.doubled_in.ensures (doubled-most _ c.args.numbers.now)

pub overflow_add-result : goal.overflow_add-result
overflow_add-result c =
    let numbers = c.args.numbers.now in
    let few : c.doubled_in-else-wanted-width.result ≤ length numbers = rw c.doubled_in-else-wanted-width.ensures (doubled-most _ numbers) in
    omega arith

pub returns-then-wanted-width : goal.returns-then-wanted-width
unfolding pixels_at
returns-then-wanted-width c = rw (le-leb _ _ c.if-wanted-width.true, c.doubled_in.ensures)

pub returns-else-wanted-width : goal.returns-else-wanted-width
unfolding pixels_at
returns-else-wanted-width c = rw (lt-leb _ _ c.if-wanted-width.false, c.doubled_in-else-wanted-width.ensures)
