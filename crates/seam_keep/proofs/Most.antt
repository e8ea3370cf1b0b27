-- What a pixel costs fits two bytes, also where only the first columns of the picture are left.
use mathlib.Core.Path.{◌≡◌}
use mathlib.Core.List.{List}
use Prim.Native.Nat.{ℕ, ◌*◌, ◌≤◌}
use native.Mathlib.Omega.{arith}
use lib.ListN.{length}
use Rattle.pictures.specs.declared.sizes.Kind.{Kind}
use Rattle.pictures.specs.declared.sizes.Kind.TheVariants.{Grey, Rgb}
use Rattle.pictures.specs.declared.sizes.Size.{Size}
use Rattle.pictures.specs.Numbers.{largest_number}
use Rattle.pictures.specs.Pictures.{channels_of, largest_sample, picture_bytes, picture}
use Rattle.pictures.proofs.Samples.{AreBytes}
use Rattle.energy.specs.declared.methods.Method.{Method}
use Rattle.energy.specs.declared.pixels.Step.{Step}
use Rattle.energy.specs.declared.pixels.Step.TheVariants.{Up, Left, Right}
use Rattle.energy.specs.Energy.{StepCosts, costs_at}
use Rattle.energy.specs.Pixels.{cost_to}
use Rattle.energy.proofs.Most.{CostsMost, buffer_costs-most}
use Rattle.seam_keep.specs.Inner.{fresh_costs}

to_most : (most : ℕ) (from : Step) (k : StepCosts) → CostsMost most k → cost_to from k ≤ most
to_most most Up k h = h.up
to_most most Left k h = h.left
to_most most Right k h = h.right

two_most : (k : Kind) → 2 * (channels_of k * largest_sample k) ≤ largest_number
two_most Grey = omega arith
two_most Rgb = omega arith

pub fresh_most : (how : Method) (from : Step) (z : Size) (w : ℕ) (b : List ℕ) → length b ≡ picture_bytes z → AreBytes b → (r c : ℕ) → fresh_costs how from z w b r c ≤ largest_number
fresh_most how from z w b e h r c =
    let most = buffer_costs-most z how b e h w z.height r c in
    omega (arith, to_most (2 * (channels_of z.kind * largest_sample z.kind)) from (costs_at how w z.height (picture z b) r c) most, two_most z.kind)
