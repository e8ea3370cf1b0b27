-- `seam_find_marked::weights::weigh_all` meets its contract: each row of weights fills its third.
use Rattle.std.proofs.Common.{◌≡◌, ℕ, ◌++◌, length, ap, ◌∙◌, arith}
use mathlib.Core.List.{map}
use lib.ListN.{length-map}
use Rattle.std.proofs.lemmas.List.{map-append}
use Rattle.grids.specs.Table.{table}
use Rattle.seam_sums.specs.declared.weights.Weight.{Weight}
use Rattle.seam_find.specs.Costing.{thirds}
use Rattle.seam_find.proofs.Thirds.{thirds_are}
use Rattle.seam_find_marked.specs.Inner.{weight_in}
use Rattle.seam_find_marked.proofs.weights.weigh_all.Goals as goal

pub returns : goal.returns
returns c =
    let a = c.args in
    let marks = a.marks.now in
    let n = length marks in
    let one : length c.split_at_mut-from_left.result.0.now ≡ n = omega (arith, c.requires.room) in
    let two : length c.split_at_mut-from_above.result.0.now ≡ n = omega (arith, c.requires.room) in
    let three : length c.split_at_mut-from_above.result.1.now ≡ n = omega (arith, c.requires.room) in
    let value : Weight → ℕ = λ w. w.0 in
    let left = c.weigh.new.cost in
    let up = c.weigh-2.new.cost in
    let right = c.weigh-3.new.cost in
    ap (thirds n) (map-append value left (up ++ right) ∙ ap (map value left ++◌) (map-append value up right))
    ∙ thirds_are n _ _ _ (length-map left value ∙ c.weigh.auto.cost ∙ one) (length-map up value ∙ c.weigh-2.auto.cost ∙ two)
    ∙ (λ i.
    record {
      left = (c.weigh.ensures ∙ ap (table (weight_in a.left.now marks)) one) i;
      up = (c.weigh-2.ensures ∙ ap (table (weight_in a.up.now marks)) two) i;
      right = (c.weigh-3.ensures ∙ ap (table (weight_in a.right.now marks)) three) i;
    })
