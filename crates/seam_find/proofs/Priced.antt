-- Costs that are read from the front of a space of bytes: no sum of them reaches the fence.
use mathlib.Core.Path.{◌≡◌}
use mathlib.Core.Bool.{Bool, false}
use mathlib.Core.List.{List}
use Prim.Native.Nat.{ℕ, suc, ◌+◌, ◌-◌, ◌*◌, ◌≤◌, ◌<◌, min}
use native.Mathlib.Nat.{mul-le-mul_right}
use native.Mathlib.Omega.{arith}
use lib.ListN.{length, get_or, take}
use lib.Seq.{length-take-le}
use Rattle.pictures.specs.Limits.{most_side}
use Rattle.pictures.specs.declared.sizes.Size.{Size}
use Rattle.pictures.specs.Refusals.{refusal}
use Rattle.pictures.specs.Pictures.{side_rules}
use Rattle.pictures.proofs.Limits.{sides_are}
use Rattle.energy.specs.declared.methods.Method.{Method}
use Rattle.seam_theory.specs.Sums.{CostRows, sums_down}
use Rattle.seam_theory.proofs.Bounded.{sums-most}
use Rattle.seam_find.specs.Costing.{CostingLaws, RowsMost}
use Rattle.pictures.proofs.Samples.{take_bytes}
use Rattle.seam_find.proofs.Downs.{Downs, above_at}

module _ {marked : Bool} {front : Size → ℕ} {costs : Size → Method → List ℕ → ℕ → CostRows} {dearest fence most end : ℕ}
    (laws : CostingLaws marked front costs dearest fence most end) (z : Size) (how : Method) (space : List ℕ)
    (allowed : refusal (side_rules z) ≡ 0) (room : front z ≤ length space) (byte : (i : ℕ) → get_or space i 0 ≤ 255) where
  pub cheap : (i : ℕ) → RowsMost dearest (costs z how (take (front z) space) i)
  cheap =
      laws.cheap z how (take (front z) space) allowed (length-take-le (front z) space room) (take_bytes (front z) space byte)

  abbrev sums : ℕ → List ℕ
  sums = sums_down false fence z.width (costs z how (take (front z) space))

  sum-most : (i k : ℕ) → i < z.height → k < z.width → get_or (sums i) k 0 ≤ most_side * dearest
  sum-most i k inside h =
      let rows : suc i ≤ most_side = omega (arith, inside, (sides_are z allowed).height_small) in
      let wide = laws.wide z how (take (front z) space) 0 in
      omega (
        arith,
        sums-most false fence z.width (costs z how (take (front z) space)) wide dearest (λ i. (cheap i).up) i k h,
        mul-le-mul_right dearest rows,
      )

  -- No sum reaches the fence, nor does it with the cost of one pixel more.
  pub sum-low : (i k : ℕ) → i < z.height → k < z.width → get_or (sums_down false fence z.width (costs z how (take (front z) space)) i) k 0 < fence
  sum-low i k inside h = omega (arith, sum-most i k inside h, laws.low)

  pub next-low : (i k : ℕ) → i < z.height - 1 → k < z.width
      → get_or (sums_down false fence z.width (costs z how (take (front z) space)) i) k 0 + get_or (costs z how (take (front z) space) (suc i)).up k 0 < fence
  next-low i k inside h = omega (arith, sum-most i k (omega arith) h, (cheap (suc i)).up k, laws.low)

  -- The sums above row i as they are kept.
  pub small : (i : ℕ) (now above : List ℕ) → Downs most fence (front z) z (costs z how) space i now above → 0 < i → i < z.height
      → (k : ℕ) → k < z.width → get_or above (k + 1) 0 ≤ min most fence
  small i now above d later inside k h =
      omega (
        arith,
        above_at most fence (front z) z (costs z how) space (laws.wide z how (take (front z) space)) i now above d k h,
        sum-low (i - 1) k (omega arith) h,
      )
