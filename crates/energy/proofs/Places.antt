-- One pixel of a picture in a buffer: where its samples stand, how far two are apart, and what coming to it costs.
use mathlib.Core.Path.{◌≡◌, refl, sym, ap, ap₂, ◌∙◌}
use mathlib.Core.Logic.{⊎_elim}
use mathlib.Core.Bool.{true, false}
use mathlib.Core.List.{List}
use Prim.Native.Nat.{ℕ, suc, ◌+◌, ◌-◌, ◌*◌, ◌≤◌, ◌<◌, min}
use native.Mathlib.Nat.{add-zero, suc-mul}
use native.Mathlib.Omega.{arith}
use borrow.Author.Tests.{lt-ltb, le-ltb}
use lib.ListN.{length, take, drop, length-drop}
use lib.Seq.{length-take-le, drop-drop}
use Rattle.std.proofs.lemmas.List.{take-append-drop}
use Rattle.grids.specs.Rows.{row_at}
use Rattle.grids.proofs.Orders.{le-or-lt}
use Rattle.grids.proofs.Rows.{part_end, row_at-before}
use Rattle.pictures.specs.declared.sizes.Size.{Size}
use Rattle.pictures.specs.Pictures.{pixel_bytes, picture, pixel}
use Rattle.pictures.proofs.Limits.{Sized, sides_are, sized_of}
use Rattle.pictures.proofs.Samples.{pixel-plain}
use Rattle.pictures.proofs.Buffers.{pixel_plain}
use Rattle.energy.specs.declared.methods.EnergyRule.{EnergyRule}
use Rattle.energy.specs.declared.pixels.Step.{Step}
use Rattle.energy.specs.declared.pixels.Step.TheVariants.{Up, Left, Right}
use Rattle.energy.specs.Around.{Around, above_of, around}
use Rattle.energy.specs.Energy.{StepCosts, alike, difference, away, left_or_it, right_or_it, forward, costs_from, one_cost}
use Rattle.energy.specs.Pixels.{cost_to}
use Rattle.energy.specs.Inner.{pixel_from, neighbour_of, CostAsked}
use Rattle.energy.proofs.Energy.{neighbour_inside, energy-neighbours}
use Rattle.energy.proofs.Meeting.{left-it, right-it}
use Rattle.energy.proofs.Padded.{after, after-inside}

-- A pixel of a row, from where the row begins.
in_row : (n c w at : ℕ) (b : List ℕ) → c * n + n ≤ w → at + w ≤ length b → row_at n c (take w (drop at b)) ≡ take n (drop (at + c * n) b)
in_row n c w at b end fits =
    let x : List ℕ = drop at b in
    sym (row_at-before n c (take w x) (drop w x) (omega (arith, length-take-le w x (omega (arith, length-drop at b)))))
    ∙ ap (row_at n c) (take-append-drop w x)
    ∙ ap (take n) (drop-drop (c * n) at b)

-- Where the pixel in row r and column c stands, and that it ends within the buffer: in the code's terms, by n bytes a pixel.
module _ (z : Size) (b : List ℕ) (sure : Sized z (length b)) (n : ℕ) (is : n ≡ pixel_bytes z.kind) where
  long : length b ≡ z.height * (z.width * n)
  long = sure.length_is ∙ ap (λ k. z.height * (z.width * k)) (sym is)

  pub place_end : (r c : ℕ) → r < z.height → c < z.width → r * (z.width * n) + c * n + n ≤ length b
  place_end r c inside here =
      omega (arith, long, part_end r z.height (z.width * n) inside, part_end c z.width n here)

  pub pixel_there : (r c : ℕ) → r < z.height → c < z.width → pixel (picture z b) r c ≡ pixel_from n (r * (z.width * n) + c * n) b
  pixel_there r c inside here =
      pixel_plain z b sure.length_is r c inside
      ∙ ap₂ (λ k m. row_at k c (row_at (z.width * m) r b)) (sym (is ∙ pixel-plain z.kind)) (sym is)
      ∙ in_row n c (z.width * n) (r * (z.width * n)) b (part_end c z.width n here) (omega (arith, long, part_end r z.height (z.width * n) inside))

-- A pixel that is asked for lies in a picture of its size,
pub asked_sized : {n : ℕ} {z : Size} {w r c bytes : ℕ} → CostAsked n z w r c bytes → Sized z bytes
asked_sized {n} {z} {w} {r} {c} {bytes} q = sized_of z bytes (sides_are z q.sides) q.long

-- and all its neighbours do. In the code's terms: by n bytes a pixel.
module _ (z : Size) (b : List ℕ) (w r c n : ℕ) (asked : CostAsked n z w r c (length b)) where
  -- The pixel in row i and column k, from its place.
  abbrev there : ℕ → ℕ → List ℕ
  there i k = pixel_from n (i * (z.width * n) + k * n) b

  read : (i k : ℕ) → i < z.height → k < w → there i k ≡ pixel (picture z b) i k
  read i k l m = sym (pixel_there z b (asked_sized asked) n asked.channels i k l (omega (arith, asked.left)))

  -- By a rule of one cost: beside the pixel and below it, or what stands for these.
  module _ (rule : EnergyRule) (one : one_cost rule ≡ true) where
    pub lower_end : neighbour_of rule r z.height * (z.width * n) + c * n + n ≤ length b
    lower_end = place_end z b (asked_sized asked) n asked.channels (neighbour_of rule r z.height) c (neighbour_inside rule r z.height asked.row) (omega (arith, asked.left, asked.column))

    pub energy_there : difference (there r (neighbour_of rule c w)) (there r c) + difference (there (neighbour_of rule r z.height) c) (there r c)
        ≡ (costs_from rule (around false w z.height (picture z b) r c)).up
    energy_there =
        ap₂ ◌+◌
        (ap₂ difference (read r (neighbour_of rule c w) asked.row (neighbour_inside rule c w asked.column)) it)
        (ap₂ difference (read (neighbour_of rule r z.height) c (neighbour_inside rule r z.height asked.row) asked.column) it)
        ∙ sym (energy-neighbours rule one w z.height (picture z b) r c asked.row asked.column)
      where
        it : there r c ≡ pixel (picture z b) r c
        it = read r c asked.row asked.column

  -- By forward: past the side edge the pixel itself stands for its neighbours.
  module _ (left right : ℕ) (left_is : left ≡ c - 1) (right_is : right ≡ min (c + 1) (w - 1)) where
    abbrev meeting : Around
    meeting = around false w z.height (picture z b) r c

    -- How far the pixels beside it are apart, and where the one above it stands.
    abbrev met : ℕ
    met = difference (there r right) (there r left)

    abbrev over : List ℕ
    over = pixel_from n (r * (z.width * n) - z.width * n + c * n) b

    right_after : right ≡ after w c
    right_after =
        ⊎_elim
        (λ (l : w ≤ c + 1). rw (le-ltb (c + 1) w l) (omega (arith, right_is, asked.column)))
        (λ (l : c + 1 < w). rw (lt-ltb (c + 1) w l) (omega (arith, right_is)))
        (le-or-lt w (c + 1))

    left_there : there r left ≡ left_or_it meeting
    left_there = ap (there r) left_is ∙ read r (c - 1) asked.row (omega (arith, asked.column)) ∙ sym (left-it w z.height (picture z b) r c)

    right_there : there r right ≡ right_or_it meeting
    right_there =
        ap (there r) right_after
        ∙ read r (after w c) asked.row (after-inside w c asked.column)
        ∙ sym (right-it w z.height (picture z b) r c)

    up_cost : met ≡ (forward meeting).up
    up_cost = ap₂ difference right_there left_there

    -- In the first row the three are alike.
    first_cost : (from : Step) → r ≡ 0 → met ≡ cost_to from (forward meeting)
    unfolding above_of
    first_cost Up e = up_cost
    first_cost Left e = up_cost ∙ rw e (sym (add-zero _))
    first_cost Right e = up_cost ∙ rw e (sym (add-zero _))

    -- In any other the pixel above meets the one at the side.
    module _ (later : r ≡ 0 → ⊥) where
      over_there : over ≡ pixel (picture z b) (r - 1) c
      over_there =
          let e : r ≡ suc (r - 1) = omega (arith, later) in
          let t : r * (z.width * n) - z.width * n ≡ (r - 1) * (z.width * n) = omega (arith, ap (λ k. k * (z.width * n)) e, suc-mul (r - 1) (z.width * n)) in
          rw t (read (r - 1) c (omega (arith, asked.row)) asked.column)

      away_there : (q it : List ℕ) → q ≡ it → difference over q ≡ away it meeting.up
      unfolding above_of
      away_there q it e = rw (lt-ltb 0 r (omega (arith, later))) (ap₂ difference over_there e)

    -- So what is read is what coming to the pixel costs, from each side.
    pub record StepsThere : Type 0 where
      pub first : (from : Step) → r ≡ 0 → met ≡ cost_to from (forward meeting)
      pub up : met ≡ (forward meeting).up
      pub left_cost : (r ≡ 0 → ⊥) → met + difference over (there r left) ≡ (forward meeting).left
      pub right_cost : (r ≡ 0 → ⊥) → met + difference over (there r right) ≡ (forward meeting).right

    pub steps_there : StepsThere
    steps_there = record {
      first = first_cost;
      up = up_cost;
      left_cost = λ later. ap₂ ◌+◌ up_cost (away_there later _ _ left_there);
      right_cost = λ later. ap₂ ◌+◌ up_cost (away_there later _ _ right_there);
    }

-- Any of three costs that are alike.
pub cost-alike : (from : Step) (k : StepCosts) → k ≡ alike k.up → cost_to from k ≡ k.up
cost-alike Up k e = refl
cost-alike Left k e = ap (λ (j : StepCosts). j.left) e
cost-alike Right k e = ap (λ (j : StepCosts). j.right) e
