-- `map_check::recorded::RecordedMap::is_connected` meets its contract: each test is of one step of one seam, a row of steps that pass
-- leads all seams to the next row, and one step that doesn't is enough.
use mathlib.Core.Path.{◌≡◌, sym, ap₂, ◌∙◌}
use Prim.Native.Nat.{◌+◌, ◌≤◌, ◌<◌}
use native.Mathlib.Omega.{arith}
use Rattle.grids.specs.Rows.{row_at}
use Rattle.seam_theory.specs.Paths.{beside}
use Rattle.pictures.specs.Numbers.{numbers_in}
use Rattle.map_check.proofs.Columns.{row_numbered, column_is}
use Rattle.map_check.proofs.Steps.{step, here_more, joined_more, all_joined, one_broken}
use Rattle.map_check.proofs.recorded.RecordedMap.is_connected.Goals as goal
use Rattle.map_check.proofs.recorded.RecordedMap.is_connected.Goals.{After-is_beside}

-- what is tested is the step of seam t from row r
tested : (c : After-is_beside) → c.is_beside.result ≡ step (numbers_in c.args.self.now.bytes.now) c.args.self.now.width c.rows.r c.loop-t.t
tested c =
    let z = c.args.self.now in
    let ys = numbers_in z.bytes.now in
    let r = c.rows.r in
    let t = c.loop-t.t in
    let some : 1 ≤ t = c.loop-t.auto.t in
    let deep : t ≤ z.depth = omega (arith, c.loop-t-test.true) in
    let below : r + 1 < z.height = omega (arith, c.rows-test.true) in
    c.is_beside.ensures
    ∙ ap₂ beside
    (column_is z.depth t (row_at z.width r ys) c.rows.here (row_numbered z.depth z.width z.height ys r (omega arith) c.requires) c.rows.invariant.3 some deep)
    (column_is z.depth t (row_at z.width (r + 1) ys) c.columns_at-in-rows.new.columns (row_numbered z.depth z.width z.height ys (r + 1) below c.requires) c.columns_at-in-rows.ensures some deep)

pub loop-t-preserved : goal.loop-t-preserved
loop-t-preserved c =
    let z = c.args.self.now in
    let l = c.loop-t in (
      l.invariant.0,
      here_more (numbers_in z.bytes.now) z.width c.rows.r l.t (sym (tested (goal.at.loop-t-preserved c).After-is_beside) ∙ c.if-not-is_beside.false) l.invariant.1,
    )

pub rows-preserved : goal.rows-preserved
rows-preserved c =
    let z = c.args.self.now in
    let l = c.rows in
    let long = c.columns_at-in-rows.auto.columns ∙ l.invariant.2 in (
      c.loop-t.invariant.0,
      long,
      long,
      c.columns_at-in-rows.ensures,
      joined_more (numbers_in z.bytes.now) z.width z.depth l.r c.loop-t.t (omega (arith, c.loop-t-test.false)) c.loop-t.invariant.1 l.invariant.4,
    )

pub returns-after-rows : goal.returns-after-rows
returns-after-rows c =
    let z = c.args.self.now in
    let out = c.rows in
    out.invariant.0 ∙ sym (all_joined (numbers_in z.bytes.now) z.width z.height z.depth out.r (omega (arith, c.rows-test.false)) out.invariant.4)

pub returns-then-not-is_beside : goal.returns-then-not-is_beside
returns-then-not-is_beside c =
    let z = c.args.self.now in
    sym (one_broken (numbers_in z.bytes.now) z.width z.height z.depth c.rows.r c.loop-t.t (omega (arith, c.rows-test.true)) c.loop-t.auto.t (omega (arith, c.loop-t-test.true))
    (sym (tested (goal.at.returns-then-not-is_beside c).After-is_beside) ∙ c.if-not-is_beside.true))
