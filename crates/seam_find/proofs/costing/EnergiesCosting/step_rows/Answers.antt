-- `<Energies as Costing>::step_rows` meets its contract: where the row is asked for, the three rows fill the space.
use Rattle.std.proofs.Common.{◌≡◌, length, ap, ◌∙◌, arith}
use Rattle.std.proofs.lemmas.List.{map-id}
use Rattle.pictures.proofs.Limits.{sized-served}
use Rattle.energy.proofs.Served.{steps-served}
use Rattle.seam_find.specs.Costing.{thirds}
use Rattle.seam_find.proofs.Thirds.{thirds_are}
use Rattle.seam_find.proofs.costing.EnergiesCosting.step_rows.Goals as goal

pub returns : goal.returns
returns c p =
    let a = c.args in
    let z = a.allowed.size in
    let one : length c.split_at_mut-left.result.0.now ≡ z.width = omega (arith, p.steps_room) in
    let two : length c.split_at_mut-up.result.0.now ≡ z.width = omega (arith, p.steps_room) in
    let three : length c.split_at_mut-up.result.1.now ≡ z.width = omega (arith, p.steps_room) in
    let s = steps-served a.bytes.now z a.method a.i _ _ _ _ _ _ c.step_costs.result c.step_costs.ensures (rw p.long (sized-served z a.allowed.allowed)) p.inside one two three in
    ap (thirds z.width) (map-id _)
    ∙ thirds_are z.width _ _ _ (c.step_costs.auto.left ∙ one) (c.step_costs.auto.up ∙ two)
    ∙ (λ i. record { left = s.left i; up = s.up i; right = s.right i })
