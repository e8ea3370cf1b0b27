-- `map_check::judge_rows` meets its contract: the rows' answer, then the map built is compared with the recorded one.
use mathlib.Core.Path.{◌≡◌, sym, ap₂, ◌∙◌}
use mathlib.Core.Bool.{true}
use Prim.Native.Nat.{◌-◌}
use native.Mathlib.Omega.{arith}
use lib.ListN.{take, drop}
use Rattle.map_theory.specs.Judged.{every, numbers}
use Rattle.map_rules.specs.Spaces.{map_bytes, map_at, recorded_at}
use Rattle.map_check.specs.Checking.{recorded_in}
use Rattle.map_check.proofs.Answers.{compared_is, built_is, recorded_left}
use Rattle.map_check.proofs.judge_rows.Goals as goal

pub returns : goal.returns
returns c =
    let a = c.args in
    let z = a.allowed.size in
    let space' = c.map_in.new.space in
    let before = c.new.ensures in
    let after = c.new-2.ensures in
    let rows : every (numbers a.depth) (recorded_in z a.space.now) ≡ true =
    (rw (before.bytes_are, before.width_is, before.height_is, before.depth_is) at (sym c.is_numbered.ensures)) ∙ c.if-not-is_numbered.false in
    -- the recorded map as it was, and the one built before it
    let bytes : c.new-2.result.bytes.now ≡ take (map_bytes z) (drop (recorded_at z) a.space.now) = after.bytes_are ∙ recorded_left a.method a.space.now c.requires c.map_in.ensures in
    let part : take (c.recorded_at.result - c.map_at.result) (drop c.map_at.result space') ≡ take (map_bytes z) (drop (map_at z) space') =
    ap₂ (λ n at. take n (drop at space')) (omega (arith, c.recorded_at.ensures, c.map_at.ensures)) c.map_at.ensures in
    c.judge_beside.ensures
    ∙ rw (bytes, after.width_is, after.height_is, after.depth_is) (compared_is a.method a.space.now c.requires _ rows (part ∙ built_is a.method a.space.now c.requires c.map_in.ensures))
