-- Bounds of what a pixel costs, over the largest sample.
use mathlib.Core.Path.{◌≡◌, refl}
use mathlib.Core.Logic.{⊎_elim}
use mathlib.Core.Bool.{Bool, true, false, cond}
use mathlib.Core.Option
use mathlib.Core.Option.{Option, none, some, map}
use mathlib.Core.List.{List, [], ◌∷◌}
use Prim.Native.Nat.{ℕ, suc, ◌*◌, ◌≤◌, ◌<◌}
use native.Mathlib.Nat.{suc-mul, mul-le-mul_right}
use native.Mathlib.Omega.{arith}
use lib.Dec.{eqb}
use lib.ListN.{length, get_or, drop}
use Rattle.grids.specs.Rows.{row_at}
use Rattle.grids.proofs.Orders.{le-or-lt}
use Rattle.pictures.specs.declared.sizes.Kind.{Kind}
use Rattle.pictures.specs.declared.sizes.Kind.TheVariants.{Grey, Rgb}
use Rattle.pictures.specs.declared.sizes.Size.{Size}
use Rattle.pictures.specs.Pictures.{Picture, channels_of, pixel_bytes, largest_sample, row_bytes, picture_bytes, picture, pixel}
use Rattle.energy.specs.Bounds.{most_sample}
use Rattle.energy.specs.Around.{left_of, right_of, above_of, around}
use Rattle.energy.specs.declared.methods.EnergyRule.{EnergyRule}
use Rattle.energy.specs.declared.methods.EnergyRule.TheVariants.{Edge, Flat, Forward}
use Rattle.energy.specs.declared.methods.Method.{Method}
use Rattle.energy.specs.Methods.{wrap_of}
use Rattle.energy.specs.Energy.{difference, away, StepCosts, costs_from, one_cost, costs_at, is_the, toward}
use Rattle.pictures.proofs.Samples.{AreBytes, take_bytes, drop_bytes, samples-most}
use Rattle.pictures.proofs.Buffers.{picture-of_size, pixel_at, pixel-past, pixel-short}
use Rattle.energy.proofs.Energy.{away_holds, two_neighbours}

-- The bound of an energy, over the largest sample m.
difference-most : (m : ℕ) (p q : List ℕ) → ((i : ℕ) → get_or p i 0 ≤ m) → ((i : ℕ) → get_or q i 0 ≤ m) → difference p q ≤ length p * m
unfolding difference
difference-most m [] q h k = omega arith
difference-most m (a ∷ p) [] h k = omega arith
difference-most m (a ∷ p) (b ∷ q) h k =
    omega (arith, h 0, k 0, suc-mul (length p) m, difference-most m p q (λ i. h (suc i)) (λ i. k (suc i)))

-- Each of the three costs is at most this.
pub record CostsMost (most : ℕ) (k : StepCosts) : Type 0 where
  pub left : k.left ≤ most
  pub up : k.up ≤ most
  pub right : k.right ≤ most

-- So does a larger bound hold,
pub costs-within : (most more : ℕ) (k : StepCosts) → most ≤ more → CostsMost most k → CostsMost more k
costs-within most more k l h = record { left = omega (arith, h.left); up = omega (arith, h.up); right = omega (arith, h.right) }

-- and a step costs at most that, from any column.
pub toward-most : (most : ℕ) (wrap : Bool) (w a c : ℕ) (k : StepCosts) → CostsMost most k → toward wrap w a c k ≤ most
unfolding toward
toward-most most wrap w a c k h = go (eqb a c) (is_the (left_of wrap w c) a)
  where
    go : (same left : Bool) → cond same k.up (cond left k.left k.right) ≤ most
    go true left = h.up
    go false true = h.left
    go false false = h.right

-- In a picture whose pixels have at most `channels` samples, none above m.
module _ (channels m : ℕ) (p : Picture) (short : (r c : ℕ) → length (pixel p r c) ≤ channels) (low : (r c k : ℕ) → get_or (pixel p r c) k 0 ≤ m) where
  -- A pixel is at most the largest sample away from another in each channel,
  pixel-most : (r c i j : ℕ) → difference (pixel p i j) (pixel p r c) ≤ channels * m
  pixel-most r c i j = omega (arith, difference-most m (pixel p i j) (pixel p r c) (low i j) (low r c), mul-le-mul_right m (short i j))

  -- so a neighbour is.
  away-most : (r c : ℕ) (at : ℕ → ℕ × ℕ) (o : Option ℕ) → away (pixel p r c) (map (λ a. pixel p (at a).0 (at a).1) o) ≤ channels * m
  away-most r c at = away_holds (λ n. n ≤ channels * m) (pixel p r c) (λ a. pixel p (at a).0 (at a).1) (omega arith) (λ a. pixel-most r c (at a).0 (at a).1)

  -- and so an energy by a rule of one cost is at most two such differences.
  energy-most : (rule : EnergyRule) → one_cost rule ≡ true → (wrap : Bool) (w h r c : ℕ) → (costs_from rule (around wrap w h p r c)).up ≤ 2 * (channels * m)
  energy-most rule one wrap w h r c =
      let two = two_neighbours rule one wrap w h p r c in
      omega (arith, two.energy_is, away-most r c (λ a. (r, a)) two.beside, away-most r c (λ a. (a, c)) two.below)

  -- By forward the pixels are two of the row, and the one above and one of these.
  beside_most : (r c : ℕ) (o : Option ℕ) (q : List ℕ) → ((a : ℕ) → difference (pixel p r a) q ≤ channels * m) → difference (Option.get_or (map (pixel p r) o) (pixel p r c)) q ≤ channels * m
  beside_most r c none q each = each c
  beside_most r c (some a) q each = each a

  apart_most : (r c : ℕ) (o b : Option ℕ) → difference (Option.get_or (map (pixel p r) o) (pixel p r c)) (Option.get_or (map (pixel p r) b) (pixel p r c)) ≤ channels * m
  apart_most r c o none = beside_most r c o (pixel p r c) (λ a. pixel-most r c r a)
  apart_most r c o (some b) = beside_most r c o (pixel p r b) (λ a. pixel-most r b r a)

  above_most : (r c : ℕ) (b u : Option ℕ) → away (Option.get_or (map (pixel p r) b) (pixel p r c)) (map (λ a. pixel p a c) u) ≤ channels * m
  above_most r c none u = away-most r c (λ a. (a, c)) u
  above_most r c (some b) u = away_holds (λ n. n ≤ channels * m) (pixel p r b) (λ a. pixel p a c) (omega arith) (λ a. pixel-most r b a c) u

  -- So a pixel costs at most two such differences, wherever a path comes from.
  rule_most : (rule : EnergyRule) (wrap : Bool) (w h r c : ℕ) → CostsMost (2 * (channels * m)) (costs_from rule (around wrap w h p r c))
  unfolding costs_from
  rule_most Edge wrap w h r c = let l = energy-most Edge refl wrap w h r c in record { left = l; up = l; right = l }
  rule_most Flat wrap w h r c = let l = energy-most Flat refl wrap w h r c in record { left = l; up = l; right = l }
  rule_most Forward wrap w h r c =
      let across = apart_most r c (right_of wrap w c) (left_of wrap w c) in
      record {
        left = omega (arith, across, above_most r c (left_of wrap w c) (above_of r));
        up = omega (arith, across);
        right = omega (arith, across, above_most r c (right_of wrap w c) (above_of r));
      }

  pub costs-most : (how : Method) (w h r c : ℕ) → CostsMost (2 * (channels * m)) (costs_at how w h p r c)
  unfolding costs_at
  costs-most how = rule_most how.energy (wrap_of how)

-- The arithmetic has room for the samples of each kind.
pub sample-most : (k : Kind) → largest_sample k ≤ most_sample
sample-most Grey = omega arith
sample-most Rgb = omega arith

-- The same of a picture in a buffer, also where only its first w columns are left.
pub buffer_costs-most : (z : Size) (how : Method) (b : List ℕ) → length b ≡ picture_bytes z → AreBytes b
    → (w h r c : ℕ) → CostsMost (2 * (channels_of z.kind * largest_sample z.kind)) (costs_at how w h (picture z b) r c)
buffer_costs-most z how b e bytes = costs-most (channels_of z.kind) (largest_sample z.kind) (picture z b) short below how
  where
    short : (r c : ℕ) → length (pixel (picture z b) r c) ≤ channels_of z.kind
    short = pixel-short z (picture z b) (picture-of_size z b e)

    part : (w r : ℕ) (b : List ℕ) → AreBytes b → AreBytes (row_at w r b)
    part w r b h = take_bytes w (drop (r * w) b) (drop_bytes (r * w) b h)

    below : (r c k : ℕ) → get_or (pixel (picture z b) r c) k 0 ≤ largest_sample z.kind
    below r c k =
        ⊎_elim
        (λ (l : z.height ≤ r). rw (pixel-past z b r c l) (omega arith))
        (λ (l : r < z.height).
        let row = row_at (row_bytes z) r b in
        rw (pixel_at z b e r c l)
        (samples-most z.kind (row_at (pixel_bytes z.kind) c row) (part (pixel_bytes z.kind) c row (part (row_bytes z) r b bytes)) k))
        (le-or-lt z.height r)
