-- A bound of the cost of a seam, so that no total overflows.
use mathlib.Core.Path.{◌≡◌}
use mathlib.Core.List.{List}
use Prim.Native.Nat.{ℕ, ◌*◌, ◌≤◌, ◌<◌}
use native.Mathlib.Nat.{mul-le-mul_right}
use native.Mathlib.Omega.{arith}
use lib.ListN.{length, get_or, take}
use lib.Seq.{length-take-le}
use Rattle.seam_theory.proofs.Priced.{cost_most as price-most}
use Rattle.pictures.specs.Limits.{most_side}
use Rattle.pictures.specs.declared.sizes.Size.{Size}
use Rattle.pictures.specs.Pictures.{Picture, picture_bytes, picture_in}
use Rattle.energy.specs.declared.methods.Method.{Method}
use Rattle.energy.specs.Methods.{wrap_of}
use Rattle.energy.specs.Bounds.{most_energy, most_cost}
use Rattle.energy.specs.Energy.{costs_at, energy, step_of}
use Rattle.energy.proofs.Most.{CostsMost, toward-most}
use Rattle.pictures.proofs.Limits.{Sides, Sized, sized_of}
use Rattle.seam_theory.specs.PictureSeams.{cost_of}
use Rattle.pictures.proofs.Samples.{take_bytes}
use Rattle.seam_find.proofs.Costs.{pixel-most}
use Rattle.seam_theory.proofs.Characterised.{seam-some}

-- At most one cost a row, each within its bound.
pub cost_bound : (how : Method) (w h : ℕ) (p : Picture) → 0 < w → 0 < h → h ≤ most_side → ((r c : ℕ) → CostsMost most_energy (costs_at how w h p r c)) → cost_of how w h p ≤ most_cost
unfolding cost_of
cost_bound how w h p some-column some-row most each =
    let found = seam-some how w h p some-column some-row in
    let sum = price-most (energy how w h p 0) (step_of how w h p) most_energy (λ c. (each 0 c).up) (λ i a c. toward-most most_energy (wrap_of how) w a c (costs_at how w h p i c) (each i c)) found.0 in
    let long : length found.0 ≡ h = found.2.path.size in
    let tall : length found.0 ≤ most_side = rw long most in
    let few : length found.0 * most_energy ≤ most_side * most_energy = mul-le-mul_right most_energy tall in
    rw found.1 (omega arith)

-- The picture at the front of a space of bytes.
pub cost_small : (z : Size) (how : Method) (space : List ℕ) → Sides z → picture_bytes z ≤ length space → ((i : ℕ) → get_or space i 0 ≤ 255)
    → cost_of how z.width z.height (picture_in z space) ≤ most_cost
cost_small z how space s room small =
    let sized : Sized z (length (take (picture_bytes z) space)) = sized_of z (length (take (picture_bytes z) space)) s (length-take-le (picture_bytes z) space room) in
    cost_bound how z.width z.height (picture_in z space) s.width_some s.height_some s.height_small
    (pixel-most z how (take (picture_bytes z) space) sized (take_bytes (picture_bytes z) space small))
