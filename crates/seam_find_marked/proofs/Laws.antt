-- The weights of a picture with its marks after it are costs that a seam can be found by.
use mathlib.Core.Path.{refl}
use mathlib.Core.Bool.{true}
use native.Mathlib.Nat.{add_assoc}
use native.Mathlib.Omega.{arith}
use lib.Seq.{length-take-le}
use Rattle.pictures.specs.Pictures.{picture_bytes, pixels}
use Rattle.pictures.proofs.Limits.{sides_are, sized_of}
use Rattle.seam_sums.specs.Fences.{fence32, weights_fence}
use Rattle.seam_find.specs.Costing.{CostingLaws}
use Rattle.pictures.proofs.Samples.{take_bytes}
use Rattle.seam_find_marked.specs.Inner.{most_weight, marked_bytes, weights_of}
use Rattle.seam_find_marked.proofs.Marked.{weights-wide, weights-alike, weights-most}

pub weights-laws : CostingLaws true marked_bytes weights_of most_weight weights_fence fence32 fence32
weights-laws = record {
  room = λ z. add_assoc (picture_bytes z) (pixels z) (pixels z);
  wide = weights-wide;
  alike = weights-alike;
  cheap = λ z how b sides long byte.
      weights-most z how b (sized_of z _ (sides_are z sides) (length-take-le _ _ (omega (arith, long)))) (take_bytes (picture_bytes z) b byte);
  low = omega arith;
  single = omega arith;
  ends = refl;
}
