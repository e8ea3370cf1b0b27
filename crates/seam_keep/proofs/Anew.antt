-- The refresh in place: where the costs of the columns that were left are right, and the picture is closed along the seam, the costs that
-- are kept are right again. A layer above needs no more of the refresh.
use mathlib.Core.Path.{◌≡◌, sym, ap, ◌∙◌}
use mathlib.Core.Bool.{Bool, cond}
use mathlib.Core.List.{List}
use Prim.Native.Nat.{ℕ, ◌+◌, ◌-◌, ◌<◌}
use native.Mathlib.Omega.{arith}
use lib.ListN.{length, length-map, take}
use Rattle.grids.specs.Cut.{cut}
use Rattle.grids.proofs.Tables.{table_same}
use Rattle.pictures.specs.Pictures.{Picture}
use Rattle.energy.specs.declared.methods.Method.{Method}
use Rattle.energy.specs.declared.pixels.Step.{Step}
use Rattle.energy.specs.Methods.{wrap_of}
use Rattle.energy.specs.Energy.{costs_at}
use Rattle.energy.specs.Pixels.{cost_to}
use Rattle.seam_planes.specs.Planes.{fronts}
use Rattle.seam_keep.specs.Refresh.{stood, changed, number_at, refreshed}
use Rattle.seam_keep.specs.Keeping.{cost_grid}
use Rattle.seam_keep.proofs.Refresh.{refresh_costs}
use Rattle.seam_keep.proofs.Fronts.{costs_fronts, grid_fronts}

-- Fresh numbers count only inside the picture that is left.
pub refreshed_same_fresh : (wrap : Bool) (w h : ℕ) (f g : ℕ → ℕ → ℕ) (s : List ℕ) (k : List (List ℕ)) → ((r c : ℕ) → r < h → c < w - 1 → f r c ≡ g r c)
    → refreshed wrap w h f s k ≡ refreshed wrap w h g s k
unfolding refreshed
refreshed_same_fresh wrap w h f g s k same =
    table_same _ _ h (λ r row. table_same _ _ (w - 1) (λ c column. ap (λ n. cond (changed wrap w h s r c) n (number_at k r (stood s r c))) (same r c row column)))

pub kept_right : (how : Method) (from : Step) (w h : ℕ) (s : List ℕ) (p q : Picture) → length s ≡ length p → fronts w q ≡ cut s (fronts (w + 1) p)
    → refreshed (wrap_of how) (w + 1) h (λ r c. cost_to from (costs_at how w h q r c)) s (cost_grid how from (w + 1) h p) ≡ cost_grid how from w h q
kept_right how from w h s p q long is =
    let less : w + 1 - 1 ≡ w = omega arith in
    let before = fronts (w + 1) p in
    ap (refreshed (wrap_of how) (w + 1) h (λ r c. cost_to from (costs_at how w h q r c)) s) (sym (grid_fronts how from (w + 1) h p))
    ∙ refreshed_same_fresh (wrap_of how) (w + 1) h (λ r c. cost_to from (costs_at how w h q r c)) (λ r c. cost_to from (costs_at how (w + 1 - 1) h (cut s before) r c)) s (cost_grid how from (w + 1) h before)
    (λ r c row column. rw less (ap (cost_to from) (sym (costs_fronts how w h q r c (omega arith)) ∙ ap (λ k. costs_at how w h k r c) is)))
    ∙ refresh_costs how from (w + 1) h s before (long ∙ sym (length-map p (take (w + 1))))
    ∙ rw less (ap (cost_grid how from w h) (sym is))
    ∙ grid_fronts how from w h q
