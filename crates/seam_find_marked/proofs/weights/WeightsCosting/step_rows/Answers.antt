-- `<Weights as Costing>::step_rows` meets its contract: row i's marks lie within the front, and its three rows of costs, weighed with
-- them column by column, are the row's weights.
use Rattle.std.proofs.Common.{◌≡◌, ℕ, ◌<◌, get_or, length, take, sym, ap, ◌∙◌, length-take-le, arith, Fits, w8, rules}
use mathlib.Core.List.{map}
use Rattle.pictures.specs.Pictures.{picture_bytes}
use Rattle.pictures.proofs.Limits.{Sized, sides_are, sized_of, sized-served}
use Rattle.pictures.proofs.Samples.{take_bytes}
use Rattle.energy.proofs.Served.{StepsServed, steps-served}
use Rattle.seam_find.specs.Costing.{thirds}
use Rattle.seam_find_marked.specs.Inner.{marked_bytes, weighed_rows}
use Rattle.seam_find_marked.proofs.Marked.{rows-weighed, costs-cheap}
use Rattle.seam_find_marked.proofs.weights.WeightsCosting.step_rows.Goals as goal
use Rattle.seam_find_marked.proofs.weights.WeightsCosting.step_rows.Goals.{After-row_marks}

-- The costs fill their rows.
module _ (c : After-row_marks) where
  is : c.picture_bytes-picture.result ≡ picture_bytes c.args.allowed.size
  is = c.picture_bytes-picture.ensures.0

  inside : c.args.i < c.args.allowed.size.height
  inside = omega (arith, c.if-allowed-i.false)

  all : length c.args.bytes.now ≡ marked_bytes c.args.allowed.size
  all = omega (arith, c.if-bytes-front.false, c.front_bytes-front.ensures.bytes)

  priced : StepsServed (take (picture_bytes c.args.allowed.size) c.args.bytes.now) c.args.allowed.size c.args.method c.args.i
      c.step_costs.new.left c.step_costs.new.up c.step_costs.new.right
  priced =
      let a = c.args in
      let z = a.allowed.size in
      let bytes = c.picture_bytes-picture.result in
      let long : length (take bytes a.bytes.now) ≡ picture_bytes z = length-take-le _ _ (omega (arith, is, all)) ∙ is in
      let room = c.if-energies-width.false in
      rw is at
      (steps-served (take bytes a.bytes.now) z a.method a.i _ _ _ _ _ _ c.step_costs.result c.step_costs.ensures (rw long (sized-served z a.allowed.allowed)) inside
      (omega (arith, room)) (omega (arith, room)) (omega (arith, room)))

pub weigh_all-requires : goal.weigh_all-requires
weigh_all-requires c =
    let a = c.args in
    let z = a.allowed.size in
    let at = (goal.at.weigh_all-requires c).After-row_marks in
    let fits : (i : ℕ) → Fits w8 (get_or a.bytes.now i 0) = search rules in
    let sized : Sized z (length (take (picture_bytes z) a.bytes.now)) =
    sized_of z _ (sides_are z a.allowed.allowed) (length-take-le _ _ (omega (arith, all at)))
    in
    let few = costs-cheap z a.method a.bytes.now sized (take_bytes (picture_bytes z) a.bytes.now (λ i. omega (arith, fits i))) in
    let marks = c.row_marks.ensures.long in
    let room = c.if-energies-width.false in
    record {
      left_long = omega (arith, c.step_costs.auto.left, marks, room);
      up_long = omega (arith, c.step_costs.auto.up, marks, room);
      right_long = omega (arith, c.step_costs.auto.right, marks, room);
      room = omega (arith, marks, c.if-steps-width.false);
      cheap_left = few (λ k. k.left) (λ k h. h.left) a.i _ (priced at).left;
      cheap_up = few (λ k. k.up) (λ k h. h.up) a.i _ (priced at).up;
      cheap_right = few (λ k. k.right) (λ k h. h.right) a.i _ (priced at).right;
    }

pub returns : goal.returns
returns c p =
    let a = c.args in
    let z = a.allowed.size in
    ap (λ n. thirds n (map (λ w. w.0) c.weigh_all.new.steps)) (sym c.row_marks.ensures.long)
    ∙ c.weigh_all.ensures
    ∙ ap (weighed_rows c.step_costs.new.left c.step_costs.new.up c.step_costs.new.right) c.row_marks.ensures.is
    ∙ rows-weighed z a.method a.bytes.now a.i p.inside p.long _ _ _ (priced (goal.at.returns c).After-row_marks)
