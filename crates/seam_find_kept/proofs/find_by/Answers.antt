-- `seam_find_kept::find_by` meets its contract: the least of the last row, as it is kept, says whether the seam costs less than the largest
-- number; where it does, the column is that of the seam.
use Rattle.std.proofs.Common.{◌+◌, ◌-◌, ◌*◌, ◌<◌, length, take, drop, false, refl, sym, ap, ◌∙◌, arith}
use mathlib.Core.List.{◌++◌}
use mathlib.Core.Bool.{true≢false}
use borrow.Author.Tests.{leb-true, leb-false, lt-ltb, le-ltb}
use Rattle.pictures.proofs.Limits.{sides_are}
use Rattle.grids.specs.Table.{table}
use Rattle.grids.specs.Rows.{flat}
use Rattle.seam_theory.specs.Sums.{columns_to, ways_up}
use Rattle.seam_sums.specs.Fences.{fence32}
use Rattle.seam_find.specs.ByCosts.{least_sum}
use Rattle.seam_find_kept.specs.Finding.{costs_in}
use Rattle.seam_find_kept.proofs.KeptRows.{Cheap, kept-cheap}
use Rattle.seam_find_kept.proofs.Small.{kept-long}
use Rattle.seam_find_kept.proofs.Downward.{column-inside, last_kept, last-least, column-bottom}
use Rattle.seam_find_kept.proofs.find_by.Given as given
use Rattle.seam_find_kept.proofs.find_by.Goals as goal
use Rattle.seam_find_kept.proofs.find_by.Goals.{After-make_sums-column, Else-is_most}

cheap : (g : given.Over) (c : After-make_sums-column g)
    → Cheap (costs_in c.args.method.energy c.args.size c.args.width c.args.costs.up.now c.args.costs.left.now c.args.costs.right.now) c.args.width
cheap g c =
    let a = c.args in
    kept-cheap a.method.energy a.size a.width a.costs.up.now a.costs.left.now a.costs.right.now c.requires.planes

inside : (g : given.Over) (c : After-make_sums-column g) → c.make_sums-column.result < c.args.width
inside g c =
    let a = c.args in
    let S = g.S.Sum in
    column-inside S.bytes S.most S.held _ a.size a.width _ _ (cheap g c) c.requires.planes.some c.make_sums-column.ensures

pub overflow_add-column : goal.overflow_add-column
overflow_add-column g c =
    omega (
      arith,
      inside g ((goal.at.overflow_add-column g c).After-make_sums-column),
      c.requires.planes.within,
      (sides_are c.args.size c.requires.planes.sides).width_small,
    )

pub at-requires : goal.at-requires
at-requires g c =
    let a = c.args in
    let S = g.S.Sum in
    let here = (goal.at.at-requires g c).After-make_sums-column in
    let some = (sides_are a.size c.requires.planes.sides).height_some in
    let row =
    ap (λ s. length (S.held (take ((a.size.height - 1) * s + s - (a.size.height - 1) * s) (drop ((a.size.height - 1) * s) c.make_sums-column.new.sums))))
    c.row_bytes-stride.ensures.all
    ∙ ap length (last_kept S.bytes S.most S.held _ a.size a.width _ (cheap g here) c.make_sums-column.ensures.rows some)
    ∙ kept-long _ a.width (cheap g here) S.most (a.size.height - 1) in
    omega (arith, row, inside g here)

pub returns-then-is_most-clause-found : goal.returns-then-is_most-clause-found
returns-then-is_most-clause-found g c =
    let a = c.args in
    let S = g.S.Sum in
    let planes = c.requires.planes in
    let cheap = kept-cheap a.method.energy a.size a.width a.costs.up.now a.costs.left.now a.costs.right.now planes in
    let least = last-least S.bytes S.most S.held _ a.size a.width _ _ cheap planes.some c.make_sums-column.ensures
    (sides_are a.size planes.sides).height_some c.row_bytes-stride.result c.row_bytes-stride.ensures.all c.at.ensures in
    let most = leb-true _ _ (sym c.is_most.ensures ∙ c.if-is_most.true) in
    record {
      told = sym (le-ltb _ _ (omega (arith, least, most)));
      found = λ e. absurd (true≢false (sym e));
      seam_left = λ e. refl;
    }

-- The seam costs less than the largest number, as what was read of the last row says.
enough : (g : given.Over) (c : Else-is_most g)
    → least_sum fence32 c.args.width c.args.size.height
    (costs_in c.args.method.energy c.args.size c.args.width c.args.costs.up.now c.args.costs.left.now c.args.costs.right.now) < g.S.Sum.most
enough g c =
    let a = c.args in
    let S = g.S.Sum in
    let planes = c.requires.planes in
    let cheap = kept-cheap a.method.energy a.size a.width a.costs.up.now a.costs.left.now a.costs.right.now planes in
    let least = last-least S.bytes S.most S.held _ a.size a.width _ _ cheap planes.some c.make_sums-column.ensures
    (sides_are a.size planes.sides).height_some c.row_bytes-stride.result c.row_bytes-stride.ensures.all c.at.ensures in
    let less = leb-false _ _ (sym c.is_most.ensures ∙ c.if-is_most.false) in
    omega (arith, least, less)

pub trace_sums-requires-clause-enough : goal.trace_sums-requires-clause-enough
trace_sums-requires-clause-enough g c = enough g ((goal.at.trace_sums-requires-clause-enough g c).Else-is_most)

pub returns-clause-found : goal.returns-clause-found
returns-clause-found g c =
    let a = c.args in
    let S = g.S.Sum in
    let k = costs_in a.method.energy a.size a.width a.costs.up.now a.costs.left.now a.costs.right.now in
    let low = enough g ((goal.at.returns-clause-found g c).Else-is_most) in
    let here = (goal.at.returns-clause-found g c).After-make_sums-column in
    let column = column-bottom S.bytes S.most S.held k a.size a.width _ _ (cheap g here) c.requires.planes.some c.make_sums-column.ensures low in
    let ways = flat (table (ways_up false fence32 a.width k) (a.size.height - 1)) in
    record {
      told = sym (lt-ltb _ _ low);
      found = λ e. c.trace_sums.ensures ∙ ap (λ n. columns_to ways a.width (a.size.height - 1) n ++ drop a.size.height a.seam.now) column;
      seam_left = λ e. absurd (true≢false e);
    }
