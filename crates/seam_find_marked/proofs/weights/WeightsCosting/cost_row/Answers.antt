-- `<Weights as Costing>::cost_row` meets its contract: row i's marks lie within the front, and its energies, weighed with them
-- column by column, are the row's weights.
use Rattle.std.proofs.Common.{◌≡◌, ℕ, ◌++◌, ◌<◌, get_or, length, take, ap, ap₂, ◌∙◌, length-take-le, arith, Fits, w8, rules}
use mathlib.Core.List.{append-nil}
use lib.ListN.{drop_of_length-le}
use Rattle.grids.specs.Table.{table}
use Rattle.grids.proofs.Tables.{table_at}
use Rattle.pictures.specs.Pictures.{picture_bytes, picture, picture_in}
use Rattle.pictures.proofs.Limits.{Sized, sides_are, sized_of, sized-served}
use Rattle.pictures.proofs.Samples.{take_bytes}
use Rattle.energy.specs.Energy.{energy, energies}
use Rattle.energy.proofs.Served.{energies-served}
use Rattle.seam_sums.specs.Weights.{kept}
use Rattle.seam_find_marked.specs.Inner.{marked_bytes, weight_in}
use Rattle.seam_find_marked.proofs.Marked.{row-weighed, costs-cheap}
use Rattle.seam_find_marked.proofs.weights.WeightsCosting.cost_row.Goals as goal
use Rattle.seam_find_marked.proofs.weights.WeightsCosting.cost_row.Goals.{After-row_marks}

-- The energies fill their row, and each is less than what a kept pixel adds.
module _ (c : After-row_marks) where
  is : c.picture_bytes-picture.result ≡ picture_bytes c.args.allowed.size
  is = c.picture_bytes-picture.ensures.0

  inside : c.args.i < c.args.allowed.size.height
  inside = omega (arith, c.if-allowed-i.false)

  all : length c.args.bytes.now ≡ marked_bytes c.args.allowed.size
  all = omega (arith, c.if-bytes-front.false, c.front_bytes-front.ensures.bytes)

  long : length (take c.picture_bytes-picture.result c.args.bytes.now) ≡ picture_bytes c.args.allowed.size
  long = length-take-le _ _ (omega (arith, is, all)) ∙ is

  priced : c.energies.new.out
      ≡ energies c.args.method c.args.allowed.size.width c.args.allowed.size.height (picture_in c.args.allowed.size c.args.bytes.now) c.args.i
  priced =
      let a = c.args in
      let z = a.allowed.size in
      let w = z.width in
      let front = a.bytes.now in
      energies-served (take c.picture_bytes-picture.result front) z a.method a.i a.energies.now c.energies.new.out c.energies.result c.energies.ensures
      (rw long (sized-served z a.allowed.allowed)) inside (omega (arith, c.if-energies-width.false))
      ∙ ap₂ (λ b rest. energies a.method w z.height (picture z (take b front)) a.i ++ rest) is
      (drop_of_length-le a.energies.now {i = w} (omega (arith, c.if-energies-width.false)))
      ∙ append-nil (energies a.method w z.height (picture_in z front) a.i)

  few : (k : ℕ) → get_or c.energies.new.out k 0 < kept
  few =
      let a = c.args in
      let z = a.allowed.size in
      let fits : (i : ℕ) → Fits w8 (get_or a.bytes.now i 0) = search rules in
      let sized : Sized z (length (take (picture_bytes z) a.bytes.now)) =
      sized_of z _ (sides_are z a.allowed.allowed) (length-take-le _ _ (omega (arith, all)))
      in
      costs-cheap z a.method a.bytes.now sized (take_bytes (picture_bytes z) a.bytes.now (λ i. omega (arith, fits i))) (λ k. k.up) (λ k h. h.up) a.i _ priced

pub weigh-requires : goal.weigh-requires
weigh-requires c =
    let at = (goal.at.weigh-requires c).After-row_marks in
    record {
      all = omega (arith, c.energies.auto.out, c.if-energies-width.false, c.if-cost-width.false);
      marked = omega (arith, c.row_marks.ensures.long, c.if-cost-width.false);
      cheap = few at;
    }

pub returns : goal.returns
returns c p =
    let a = c.args in
    let z = a.allowed.size in
    let w = z.width in
    let front = a.bytes.now in
    let at = (goal.at.returns c).After-row_marks in
    c.weigh.ensures
    ∙ ap₂ (λ x n. table (weight_in c.energies.new.out x) n) c.row_marks.ensures.is p.steps_room
    ∙ row-weighed z a.method front a.i p.inside p.long (λ k. k.up) c.energies.new.out
    (λ k l. ap (λ x. get_or x k 0) (priced at) ∙ table_at (energy a.method w z.height (picture_in z front) a.i) w k 0 l)
