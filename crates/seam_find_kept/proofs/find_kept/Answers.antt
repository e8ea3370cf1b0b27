-- `seam_find_kept::find_kept` meets its contract: sums of 16 bits weren't asked for or weren't enough, and sums of 32 bits always are.
use Rattle.std.proofs.Common.{◌-◌, ◌<◌, ◌++◌, ltb, length, drop, sym, ap, ◌∙◌, arith, rules}
use mathlib.Core.Bool.{◌&&◌}
use borrow.Author.Tests.{lt-ltb}
use Rattle.pictures.specs.Limits.{most_side}
use Rattle.pictures.specs.Numbers.{largest_number}
use Rattle.pictures.proofs.Limits.{sides_are}
use Rattle.energy.specs.Energy.{one_cost}
use Rattle.seam_sums.specs.Fences.{fence32}
use Rattle.seam_sums.proofs.Turns.{least_inside}
use Rattle.seam_find.specs.ByCosts.{last_sums, bottom_column, least_sum, path_columns}
use Rattle.seam_find_kept.specs.Finding.{costs_in}
use Rattle.seam_find_kept.specs.Inner.Down.{PlanesNeeded}
use Rattle.seam_find_kept.proofs.KeptRows.{kept-cheap}
use Rattle.seam_find_kept.proofs.Small.{sums-low}
use Rattle.seam_find_kept.proofs.find_kept.Goals as goal
use Rattle.seam_find_kept.proofs.find_kept.Goals.{else-is_narrow-via-then-is_narrow+else-find_by, else-is_narrow-via-else-is_narrow}

pub returns-clause-found : goal.returns-clause-found
returns-clause-found c f =
    let a = c.args in
    let k = costs_in a.method.energy a.size a.width a.costs.up.now a.costs.left.now a.costs.right.now in
    let h = a.size.height in
    let planes : PlanesNeeded a.size a.width (one_cost a.method.energy) a.costs.up.now (length a.costs.left.now) (length a.costs.right.now) =
    search rules in
    let sides = sides_are a.size f.sides in
    let cheap = kept-cheap a.method.energy a.size a.width a.costs.up.now a.costs.left.now a.costs.right.now planes in
    let few : h - 1 < most_side = omega (arith, sides.height_small, sides.height_some) in
    let column : bottom_column fence32 a.width h k < a.width = omega (arith, least_inside (last_sums fence32 a.width h k) (a.width - 1), f.some) in
    let low = sums-low k a.width cheap (h - 1) few (bottom_column fence32 a.width h k) column in
    let wide = c.find_by-2.ensures.found in
    let found = wide.found (wide.told ∙ lt-ltb _ _ (omega (arith, low))) in
    let small = ltb (least_sum fence32 a.width h k) largest_number in
    elim c.else-is_narrow.branch [
      | else-is_narrow-via-then-is_narrow+else-find_by w ↦ record {
        enough = sym w.if-find_by.false ∙ w.find_by.ensures.found.told ∙ ap (λ b. b && small) (sym w.if-is_narrow.true);
        seam_given = found ∙ ap (λ s. path_columns fence32 a.width h k ++ drop h s) (w.seam-is ∙ w.find_by.ensures.found.seam_left w.if-find_by.false);
      }
      | else-is_narrow-via-else-is_narrow w ↦ record {
        enough = ap (λ b. b && small) (sym w.if-is_narrow.false);
        seam_given = found ∙ ap (λ s. path_columns fence32 a.width h k ++ drop h s) w.seam-is;
      }
    ]
