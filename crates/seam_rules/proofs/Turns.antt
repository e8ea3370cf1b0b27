-- Laws of sizes turned for a seam along an axis, stated once over the axis.
use mathlib.Core.Path.{◌≡◌, refl}
use Prim.Native.Nat.{ℕ, ◌≤◌}
use native.Mathlib.Nat.{mul_comm, mul_left_comm}
use Rattle.pictures.specs.declared.sizes.Size.{Size}
use Rattle.pictures.specs.Refusals.{refusal}
use Rattle.pictures.specs.Pictures.{largest_side, pixel_bytes, picture_bytes, side_rules, pixels}
use Rattle.pictures.proofs.Limits.{Sized, sides_of}
use Rattle.seam_rules.specs.declared.answers.Axis.{Axis}
use Rattle.seam_rules.specs.declared.answers.Axis.TheVariants.{Vertical, Horizontal}
use Rattle.seam_rules.specs.Axes.{turned_size}

pub turned-bytes : (x : Axis) (z : Size) → picture_bytes (turned_size x z) ≡ picture_bytes z
turned-bytes Vertical z = refl
turned-bytes Horizontal z = mul_left_comm z.width z.height (pixel_bytes z.kind)

pub turned-pixels : (x : Axis) (z : Size) → pixels (turned_size x z) ≡ pixels z
turned-pixels Vertical z = refl
turned-pixels Horizontal z = mul_comm z.width z.height

pub turned-sides : (x : Axis) (z : Size) (n : ℕ) → Sized z n → refusal (side_rules (turned_size x z)) ≡ 0
turned-sides Vertical z n s = sides_of z s.width_some s.width_most s.height_some s.height_most
turned-sides Horizontal z n s = sides_of (turned_size Horizontal z) s.height_some s.height_most s.width_some s.width_most

pub turned_tall : (x : Axis) (z : Size) (n : ℕ) → Sized z n → (turned_size x z).height ≤ largest_side
turned_tall Vertical z n s = s.height_most
turned_tall Horizontal z n s = s.width_most
