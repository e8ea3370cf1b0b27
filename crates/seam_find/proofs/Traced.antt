-- The columns traced back are the seam of the picture at the front of the space.
use mathlib.Core.Path.{◌≡◌, refl, sym, ap, ◌∙◌}
use mathlib.Core.Bool.{false, true≢false}
use mathlib.Core.Option
use mathlib.Core.List.{List, [], reverse}
use Prim.Native.Nat.{ℕ, suc, ◌+◌, ◌-◌, ◌≤◌, ◌<◌}
use native.Mathlib.Nat.{mul-le-mul_right}
use native.Mathlib.Omega.{arith}
use lib.ListN.{length, get_or}
use Rattle.grids.specs.Table.{table}
use Rattle.grids.specs.Rows.{flat}
use Rattle.grids.proofs.Tables.{length-table}
use Rattle.pictures.specs.Limits.{most_side}
use Rattle.pictures.specs.declared.sizes.Size.{Size}
use Rattle.pictures.specs.Pictures.{Picture, picture}
use Rattle.pictures.proofs.Limits.{Sized}
use Rattle.energy.specs.declared.methods.Method.{Method}
use Rattle.energy.specs.Methods.{wrap_of}
use Rattle.energy.specs.Bounds.{most_energy}
use Rattle.energy.specs.Energy.{costs_at, energy, step_of}
use Rattle.seam_theory.specs.PictureSeams.{path_cost, seam_up, seam_of, cost_of}
use Rattle.seam_theory.specs.Sums.{sums_down, ways_up, columns_to, least_to}
use Rattle.seam_theory.proofs.Bounded.{sums-most}
use Rattle.seam_theory.proofs.Toward.{rows-through}
use Rattle.seam_theory.proofs.Sums.{Costed, FoundPath, found}
use Rattle.seam_sums.specs.Fences.{fence32}
use Rattle.seam_find.specs.Costing.{plain_costs}
use Rattle.seam_find.proofs.Costs.{cost_most}

module _ (z : Size) (how : Method) (b : List ℕ) (sized : Sized z (length b)) (byte : (i : ℕ) → get_or b i 0 ≤ 255) where
  abbrev w : ℕ
  w = z.width

  abbrev h : ℕ
  h = z.height

  abbrev p : Picture
  p = picture z b

  wide : (i : ℕ) → length (plain_costs z how b i).up ≡ w
  wide i = length-table (energy how w h p i) w

  -- Every sum is below the fence.
  low : (i c : ℕ) → i < h - 1 → c < w → get_or (sums_down false fence32 w (plain_costs z how b) i) c 0 + get_or (plain_costs z how b (suc i)).up c 0 < fence32
  low i c k l =
      let rows : suc i ≤ most_side = omega (arith, sized.height_small) in
      let most : (i k : ℕ) → get_or (plain_costs z how b i).up k 0 ≤ most_energy = λ i. (cost_most z how b sized byte i).up in
      omega (arith, sums-most false fence32 w (plain_costs z how b) (wide 0) most_energy most i c l, most (suc i) c, mul-le-mul_right most_energy rows)

  -- The cost rows are those of the picture's steps.
  costed : Costed false fence32 w h (plain_costs z how b) (energy how w h p 0) (step_of how w h p)
  unfolding wrap_of
  costed = record {
    first_row_is = refl;
    rows = λ i s. rows-through false w (costs_at how w h p (suc i)) (λ e y. absurd (true≢false (sym y))) s;
    low = low;
  }

  seam : FoundPath false fence32 w h (plain_costs z how b) (energy how w h p 0) (step_of how w h p)
  unfolding wrap_of
  seam = found false fence32 w h (plain_costs z how b) (energy how w h p 0) (step_of how w h p) costed sized.width_some sized.height_some

  abbrev bottom : ℕ
  bottom = least_to (sums_down false fence32 w (plain_costs z how b) (h - 1)) (w - 1)

  path_is : Option.get_or (seam_up how w h p) [] ≡ seam.path
  unfolding wrap_of
  path_is = ap (λ o. Option.get_or o []) seam.is

  pub seam-traced : columns_to (flat (table (ways_up false fence32 z.width (plain_costs z how b)) (z.height - 1))) z.width (z.height - 1) bottom ≡ seam_of how z.width z.height (picture z b)
  unfolding seam_of
  seam-traced = seam.columns ∙ ap reverse (sym path_is)

  pub cost-summed : get_or (sums_down false fence32 z.width (plain_costs z how b) (z.height - 1)) bottom 0 ≡ cost_of how z.width z.height (picture z b)
  unfolding cost_of wrap_of
  cost-summed = sym seam.price ∙ ap (path_cost how w h p) (sym path_is)
