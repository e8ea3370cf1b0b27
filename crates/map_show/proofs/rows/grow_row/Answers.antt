-- `map_show::rows::grow_row` meets its contract.
use mathlib.Core.Path.{refl, ◌∙◌}
use Prim.Native.Nat.{◌+◌, ◌≤◌}
use borrow.Author.Rules.{rules}
use native.Mathlib.Omega.{arith}
use lib.ListN.{length}
use Rattle.map_show.proofs.Filling.{fill_size}
use Rattle.map_show.proofs.Grows.{Growing, grow-start, grow-needed, new-needed, new-put, new-pass, last-needed, last-put, grow_none}
use Rattle.map_show.proofs.rows.grow_row.Goals as goal
use Rattle.map_show.proofs.rows.grow_row.Goals.{then-is_doubled, else-is_doubled}

pub returns-in_default : goal.returns-in_default
returns-in_default g c = grow_none c.args.wrap c.args.u c.requires c.in_default.ensures.cases

pub loop-c-init : goal.loop-c-init
loop-c-init g c = (refl, grow-start c.args.wrap c.args.u c.requires (omega (arith, c.in-Some.ensures.cases.1)))

-- there is room for pixel c
pub put_pixel-requires : goal.put_pixel-requires
put_pixel-requires g c = grow-needed c.args.wrap c.args.u c.requires _ _ c.in-Some.ensures.cases c.loop-c.c c.loop-c-test.true c.loop-c.invariant.1

-- where the test of number c passes, there is room for the new pixel
pub put_mean-requires : goal.put_mean-requires
put_mean-requires g c = new-needed c.args.wrap c.args.u c.requires _ _ c.in-Some.ensures.cases c.loop-c.c c.loop-c-test.true c.loop-c.invariant.1 c.put_pixel.ensures c.is_doubled.ensures c.if-is_doubled.true

-- and so the place after it is one
pub overflow_add-at-then-is_doubled : goal.overflow_add-at-then-is_doubled
overflow_add-at-then-is_doubled g c =
    let l = c.loop-c in
    let room : l.at + g.row.N + g.row.N ≤ length c.put_pixel.new.out =
    (new-needed c.args.wrap c.args.u c.requires _ _ c.in-Some.ensures.cases c.loop-c.c c.loop-c-test.true c.loop-c.invariant.1 c.put_pixel.ensures c.is_doubled.ensures c.if-is_doubled.true).room in
    search rules

pub loop-c-preserved : goal.loop-c-preserved
loop-c-preserved g c =
    let a = c.args in
    let f : Growing g.row.N a.wrap a.samples.now a.numbers.now a.u a.out.now (c.loop-c.c + 1) c.if-is_doubled.out c.if-is_doubled.at =
    elim c.if-is_doubled.branch [
      | then-is_doubled w ↦
          rw (w.out-is, w.at-is, w.put_mean.ensures) (new-put c.args.wrap c.args.u c.requires _ _ c.in-Some.ensures.cases c.loop-c.c c.loop-c-test.true c.loop-c.invariant.1 c.put_pixel.ensures c.is_doubled.ensures w.if-is_doubled.true)
      | else-is_doubled w ↦
          rw (w.out-is, w.at-is) (new-pass c.args.wrap c.args.u c.requires _ _ c.in-Some.ensures.cases c.loop-c.c c.loop-c-test.true c.loop-c.invariant.1 c.put_pixel.ensures c.is_doubled.ensures w.if-is_doubled.false)
    ] in
    (fill_size f, f)

-- the last pixel is still to come, with the test of the last number
pub put_last-requires : goal.put_last-requires
put_last-requires g c = last-needed c.args.wrap c.args.u c.requires _ _ c.in-Some.ensures.cases (omega (arith, c.loop-c-test.false)) c.loop-c.invariant.1 c.is_doubled-2.ensures

pub returns : goal.returns
returns g c = c.put_last.ensures ∙ last-put c.args.wrap c.args.u c.requires _ _ c.in-Some.ensures.cases (omega (arith, c.loop-c-test.false)) c.loop-c.invariant.1 c.is_doubled-2.ensures
