-- Sizes with rows and columns less.
use mathlib.Core.Path.{◌≡◌}
use Prim.Native.Nat.{ℕ, ◌<◌}
use native.Mathlib.Omega.{arith}
use Rattle.pictures.specs.declared.sizes.Size.{Size}
use Rattle.pictures.specs.Refusals.{refusal}
use Rattle.pictures.specs.Pictures.{side_rules}
use Rattle.pictures.proofs.Limits.{sides_are, sides_of}
use Rattle.seam_rules.specs.Counts.{smaller}

-- They are allowed as long as a row and a column are left.
pub smaller-sides : (z : Size) (r c : ℕ) → refusal (side_rules z) ≡ 0 → r < z.height → c < z.width → refusal (side_rules (smaller z r c)) ≡ 0
smaller-sides z r c s h w =
    let q = sides_are z s in
    sides_of (smaller z r c) (omega arith) (omega (arith, q.width_most)) (omega arith) (omega (arith, q.height_most))
