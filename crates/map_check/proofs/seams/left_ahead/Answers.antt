-- `map_check::seams::left_ahead` meets its contract: what is left ahead of a place is what is left of the row, less what is from there
-- on.
use mathlib.Core.Path.{◌≡◌, ap}
use Prim.Native.Nat.{◌+◌, ◌-◌}
use native.Mathlib.Omega.{arith}
use lib.ListN.{length, take, drop, length-drop}
use lib.Seq.{take_all}
use Rattle.map_check.specs.Inner.Columns.{left_in}
use Rattle.map_check.proofs.Columns.{left_parts}
use Rattle.map_check.proofs.seams.left_ahead.Goals as goal
use Rattle.map_check.proofs.seams.left_ahead.Goals.{After-left_in-2}

sides : (c : After-left_in-2) → left_in c.args.t (take c.args.c c.args.row.now) + c.left_in-2.result + c.args.t ≡ length c.args.row.now + 1
sides c =
    let a = c.args in
    let row = a.row.now in
    let all : take (length row - a.c) (drop a.c row) ≡ drop a.c row = take_all (length row - a.c) (drop a.c row) (omega (arith, length-drop a.c row)) in
    omega (arith, c.left_in-2.ensures, ap (left_in a.t) all, left_parts a.t a.c row, c.requires.left)

pub overflow_sub-result-2 : goal.overflow_sub-result-2
overflow_sub-result-2 c = omega (arith, sides (goal.at.overflow_sub-result-2 c).After-left_in-2)

pub returns : goal.returns
returns c = omega (arith, sides (goal.at.returns c).After-left_in-2)
