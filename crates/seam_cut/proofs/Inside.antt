-- The seam found lies inside the picture.
use mathlib.Core.Bool.{Bool}
use mathlib.Core.List.{List}
use Prim.Native.Nat.{ℕ, ◌<◌}
use Rattle.grids.specs.Each.{Each}
use Rattle.grids.proofs.Shapes.{each_member, each-reverse}
use Rattle.seam_theory.specs.Connected.{IsPath}
use Rattle.seam_theory.proofs.Nearby.{nearby-paths}
use Rattle.seam_theory.proofs.Seams.{cheapest-some}
use Rattle.pictures.specs.declared.sizes.Size.{Size}
use Rattle.pictures.specs.Pictures.{Picture}
use Rattle.energy.specs.declared.methods.Method.{Method}
use Rattle.energy.specs.Methods.{wrap_of}
use Rattle.energy.specs.Energy.{energy, step_of}
use Rattle.pictures.proofs.Limits.{Sized}
use Rattle.seam_theory.specs.PictureSeams.{seam_of}
use Rattle.seam_rules.specs.declared.answers.Axis.{Axis}
use Rattle.seam_rules.specs.declared.answers.Axis.TheVariants.{Vertical, Horizontal}
use Rattle.seam_rules.specs.Axes.{turned_size}
use Rattle.seam_turn.specs.Axes.{turned}
use Rattle.seam_cut.specs.Axes.{seam_along}

-- A path has h columns below w.
pub path_inside : (wrap : Bool) (w h : ℕ) (s : List ℕ) → IsPath wrap w h s → Each (λ c. c < w) h s
path_inside wrap w h s p = rw p.size at (each_member s p.within)

pub seam_inside : (how : Method) (w h : ℕ) (p : Picture) → 0 < w → 0 < h → Each (λ c. c < w) h (seam_of how w h p)
unfolding seam_of
seam_inside how w h p some-column some-row =
    let found = cheapest-some (energy how w h p 0) (step_of how w h p) (wrap_of how) w h some-column some-row in
    rw found.1 (each-reverse (path_inside (wrap_of how) w h found.0 ((nearby-paths (wrap_of how) w h found.0).0 found.2.member)))

-- The same along either axis.
pub along_inside : (how : Method) (x : Axis) (z : Size) (n : ℕ) (p : Picture) → Sized z n → Each (λ c. c < (turned_size x z).width) (turned_size x z).height (seam_along how x z p)
unfolding seam_along
along_inside how Vertical z n p s = seam_inside how z.width z.height (turned Vertical z.width p) s.width_some s.height_some
along_inside how Horizontal z n p s = seam_inside how z.height z.width (turned Horizontal z.width p) s.height_some s.width_some
