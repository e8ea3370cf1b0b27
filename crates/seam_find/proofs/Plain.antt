-- The energies of a picture without marks are costs that a seam can be found by.
use mathlib.Core.Path.{refl}
use mathlib.Core.Bool.{false}
use native.Mathlib.Omega.{arith}
use Rattle.pictures.specs.Pictures.{picture_bytes, picture}
use Rattle.pictures.proofs.Limits.{sides_are, sized_of}
use Rattle.energy.specs.Bounds.{most_energy}
use Rattle.seam_theory.proofs.Alike.{rows_alike}
use Rattle.seam_sums.specs.Fences.{fence32, largest_word}
use Rattle.seam_find.specs.Costing.{plain_costs, CostingLaws}
use Rattle.seam_find.proofs.Costs.{cost_most, costs-long}

pub plain_laws : CostingLaws false picture_bytes plain_costs most_energy fence32 largest_word fence32
plain_laws = record {
  room = λ z. refl;
  wide = costs-long;
  alike = λ z how one b i. rows_alike how one z.width z.height (picture z b) i;
  cheap = λ z how b sides long byte. cost_most z how b (sized_of z _ (sides_are z sides) long) byte;
  low = omega arith;
  single = omega arith;
  ends = refl;
}
