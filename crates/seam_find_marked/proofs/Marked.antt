-- A picture with its marks after it in a buffer: the weights of its rows, and what is found in the last row of their sums.
use mathlib.Core.Path.{◌≡◌, refl, sym, ap, ap₂, ◌∙◌}
use mathlib.Core.Bool.{true, false, true≢false}
use mathlib.Core.Option
use mathlib.Core.Option.{some}
use mathlib.Core.List.{List, [], reverse}
use Prim.Native.Nat.{ℕ, suc, ◌+◌, ◌-◌, ◌*◌, ◌%◌, ◌≤◌, ◌<◌}
use native.Mathlib.Nat.{mul-le-mul, mul-le-mul_right}
use native.Mathlib.Omega.{arith}
use lib.ListN.{length, get_or, take, drop, length-drop}
use lib.Seq.{take-take, take-add, take_all, drop_at, drop-drop, length-take-le}
use Rattle.grids.specs.Table.{table}
use Rattle.grids.specs.Rows.{flat, rows_of}
use Rattle.grids.proofs.Tables.{length-table, table_at, table_same}
use Rattle.grids.proofs.Rows.{part_end, rows_of_at}
use Rattle.pictures.specs.Limits.{most_side}
use Rattle.pictures.specs.declared.sizes.Size.{Size}
use Rattle.pictures.specs.declared.sizes.Kind.{Kind}
use Rattle.pictures.specs.declared.sizes.Kind.TheVariants.{Grey, Rgb}
use Rattle.pictures.specs.Pictures.{Picture, channels_of, largest_sample, picture_bytes, picture, pixels, picture_in, marks_in}
use Rattle.pictures.proofs.Limits.{Sized}
use Rattle.energy.specs.declared.methods.Method.{Method}
use Rattle.energy.specs.Methods.{wrap_of}
use Rattle.energy.specs.Energy.{StepCosts, one_cost, costs_at}
use Rattle.energy.proofs.Steps.{costs-alike}
use Rattle.energy.proofs.Most.{CostsMost, costs-within, buffer_costs-most}
use Rattle.energy.proofs.Served.{StepsServed}
use Rattle.seam_theory.specs.Paths.{cost}
use Rattle.seam_theory.specs.PictureSeams.{path_cost, mark_at, marked_up, marked_seam_of, marked_cost_of, is_none}
use Rattle.seam_theory.specs.Sums.{cost_rows, alike_rows, sums_down, ways_up, columns_to, least_to}
use Rattle.seam_theory.proofs.Bounded.{sums-most}
use Rattle.seam_theory.proofs.Toward.{rows-through}
use Rattle.seam_theory.proofs.Sums.{Costed, FoundPath, found}
use Rattle.seam_sums.specs.Weights.{weight_of, kept, protected}
use Rattle.seam_sums.specs.Fences.{weights_fence}
use Rattle.seam_find.specs.Costing.{RowsMost}
use Rattle.pictures.proofs.Samples.{take_bytes}
use Rattle.seam_find.proofs.Costs.{table-most, rows-most}
use Rattle.seam_find_marked.specs.Inner.{byte_energy, most_weight, marks_at, weight_in, weighed, weighed_rows, weights_at, weights_of, marked_bytes}
use Rattle.seam_find_marked.proofs.Weighed.{first_weight, step_weight, weight-most, light-found, light-cost, heavy-blocked}

-- A row has a weight for each column.
pub weights-wide : (z : Size) (how : Method) (b : List ℕ) (i : ℕ) → length (weights_of z how b i).up ≡ z.width
weights-wide z how b i = length-table (λ c. (weights_at how z.width z.height (picture_in z b) (marks_in z b) i c).up) z.width

-- By a rule of one cost a pixel weighs the same wherever a path comes from.
pub weights-alike : (z : Size) (how : Method) → one_cost how.energy ≡ true → (b : List ℕ) (i : ℕ) → weights_of z how b i ≡ alike_rows (weights_of z how b i).up
weights-alike z how one b i =
    ap (λ (k : ℕ → StepCosts). cost_rows z.width (λ c. weighed (k c) (mark_at (marks_in z b) i c)))
    (λ j c. costs-alike how one z.width z.height (picture_in z b) i c j)

-- The weights of row i, from one of its rows of costs and the part of the buffer that holds its marks.
module _ (z : Size) (how : Method) (b : List ℕ) (i : ℕ) (inside : i < z.height) (long : length b ≡ marked_bytes z) where
  abbrev marks : List ℕ
  marks = marks_at z b i

  row-marks : get_or (marks_in z b) i [] ≡ marks
  row-marks =
      rows_of_at z.width z.height (take (pixels z) (drop (picture_bytes z) b)) i inside
      ∙ ap (λ x. take z.width (drop (i * z.width) x))
      (take_all (pixels z) (drop (picture_bytes z) b) (omega (arith, length-drop (picture_bytes z) b)))
      ∙ ap (take z.width) (drop-drop (i * z.width) (picture_bytes z) b)

  pub row-weighed : (part : StepCosts → ℕ) (costs : List ℕ) → ((c : ℕ) → c < z.width → get_or costs c 0 ≡ part (costs_at how z.width z.height (picture_in z b) i c))
      → table (weight_in costs (marks_at z b i)) z.width
      ≡ table (λ c. weight_of (part (costs_at how z.width z.height (picture_in z b) i c)) (mark_at (marks_in z b) i c)) z.width
  row-weighed part costs are =
      table_same (weight_in costs marks) _ z.width
      (λ c l. ap₂ weight_of (are c l) (ap (λ x. get_or x c 0) (sym row-marks)))

  pub marks-long : length (marks_at z b i) ≡ z.width
  marks-long =
      length-take-le z.width (drop (picture_bytes z + i * z.width) b)
      (omega (arith, long, length-drop (picture_bytes z + i * z.width) b, part_end i z.height z.width inside))

  -- And from all three.
  pub rows-weighed : (left up right : List ℕ) → StepsServed (take (picture_bytes z) b) z how i left up right
      → weighed_rows left up right (marks_at z b i) ≡ weights_of z how b i
  rows-weighed left up right s = λ j. record {
    left = one (λ k. k.left) left s.left j;
    up = one (λ k. k.up) up s.up j;
    right = one (λ k. k.right) right s.right j;
  }
    where
      one : (part : StepCosts → ℕ) (costs : List ℕ) → costs ≡ table (λ c. part (costs_at how z.width z.height (picture_in z b) i c)) z.width
          → table (weight_in costs marks) (length marks) ≡ table (λ c. weight_of (part (costs_at how z.width z.height (picture_in z b) i c)) (mark_at (marks_in z b) i c)) z.width
      one part costs are =
          ap (table (weight_in costs marks)) marks-long
          ∙ row-weighed part costs (λ c l. ap (λ x. get_or x c 0) are ∙ table_at (λ c. part (costs_at how z.width z.height (picture_in z b) i c)) z.width c 0 l)

-- The largest sample is one of a byte.
byte-sample : (k : Kind) → largest_sample k ≤ 255
byte-sample Grey = omega arith
byte-sample Rgb = omega arith

-- A picture within the limits, of bytes.
module _ (z : Size) (how : Method) (b : List ℕ) (sized : Sized z (length (take (picture_bytes z) b)))
    (byte : (i : ℕ) → get_or (take (picture_bytes z) b) i 0 ≤ 255) where
  abbrev w : ℕ
  w = z.width

  abbrev h : ℕ
  h = z.height

  abbrev p : Picture
  p = picture_in z b

  abbrev m : List (List ℕ)
  m = marks_in z b

  pub costs-most : (r c : ℕ) → CostsMost byte_energy (costs_at how z.width z.height (picture_in z b) r c)
  costs-most r c =
      costs-within (2 * (channels_of z.kind * largest_sample z.kind)) byte_energy _ (omega (arith, mul-le-mul sized.channels_most (byte-sample z.kind)))
      (buffer_costs-most z how (take (picture_bytes z) b) sized.length_is byte w h r c)

  -- Some of a row's costs are less than what a kept pixel adds.
  pub costs-cheap : (part : StepCosts → ℕ) → ((k : StepCosts) → CostsMost byte_energy k → part k ≤ byte_energy) → (i : ℕ) (costs : List ℕ)
      → costs ≡ table (λ c. part (costs_at how z.width z.height (picture_in z b) i c)) z.width → (c : ℕ) → get_or costs c 0 < kept
  costs-cheap part few i costs are c =
      let most = table-most (λ c. part (costs_at how w h p i c)) w byte_energy (λ c. few (costs_at how w h p i c) (costs-most i c)) c in
      omega (arith, ap (λ x. get_or x c 0) are, most)

  pub weights-most : (i : ℕ) → RowsMost most_weight (weights_of z how b i)
  weights-most i =
      rows-most most_weight w (weights_at how w h p m i)
      (λ c.
      let k = costs_at how w h p i c in
      let most = costs-most i c in
      record {
        left = weight-most k.left (mark_at m i c) most.left;
        up = weight-most k.up (mark_at m i c) most.up;
        right = weight-most k.right (mark_at m i c) most.right;
      })

  abbrev sums : ℕ → List ℕ
  sums = sums_down false weights_fence w (weights_of z how b)

  abbrev first : ℕ → ℕ
  first = first_weight how w h p m

  abbrev step : ℕ → ℕ → ℕ → ℕ
  step = step_weight how w h p m

  -- Every sum is below the fence.
  low : (i c : ℕ) → i < h - 1 → c < w → get_or (sums i) c 0 + get_or (weights_of z how b (suc i)).up c 0 < weights_fence
  low i c k l =
      let rows : suc i ≤ most_side = omega (arith, sized.height_small) in
      let each : (i k : ℕ) → get_or (weights_of z how b i).up k 0 ≤ most_weight = λ i. (weights-most i).up in
      let most = sums-most false weights_fence w (weights_of z how b) (weights-wide z how b 0) most_weight each i c l in
      omega (arith, each (suc i) c, mul-le-mul_right most_weight rows)

  -- The cost rows are the weights of steps.
  costed : Costed false weights_fence w h (weights_of z how b) first step
  unfolding wrap_of
  costed = record {
    first_row_is = refl;
    rows = λ i s. rows-through false w (weights_at how w h p m (suc i)) (λ e y. absurd (true≢false (sym y))) s;
    low = low;
  }

  -- The ways between the rows.
  abbrev ways : List ℕ
  ways = flat (table (ways_up false weights_fence w (weights_of z how b)) (h - 1))

  -- The first path of least weight, and where it ends.
  seam : FoundPath false weights_fence w h (weights_of z how b) first step
  seam = found false weights_fence w h (weights_of z how b) first step costed sized.width_some sized.height_some

  abbrev bottom : ℕ
  bottom = least_to (sums (h - 1)) (w - 1)

  -- The least sum of the last row is below `protected`: it is the seam, and its cost is a remainder of the sum.
  module _ (light : get_or (sums (h - 1)) bottom 0 < protected) where
    under : cost first step seam.path < protected
    under = rw seam.price light

    marked-found : marked_up how w h p m ≡ some seam.path
    unfolding wrap_of
    marked-found = light-found how w h p m sized.height_small costs-most seam.path seam.is under

    pub marked-some : is_none (marked_up how w h p m) ≡ false
    marked-some = ap is_none marked-found

    path_is : Option.get_or (marked_up how w h p m) [] ≡ seam.path
    path_is = ap (λ o. Option.get_or o []) marked-found

    pub marked-seam : columns_to ways w (h - 1) bottom ≡ marked_seam_of how w h p m
    unfolding marked_seam_of
    marked-seam = seam.columns ∙ ap reverse (sym path_is)

    pub marked-cost : get_or (sums (h - 1)) bottom 0 % kept ≡ marked_cost_of how w h p m
    unfolding marked_cost_of wrap_of
    marked-cost =
        ap (λ n. n % kept) (sym seam.price)
        ∙ sym (light-cost how w h p m sized.height_small costs-most seam.path seam.is under)
        ∙ ap (path_cost how w h p) (sym path_is)

  -- It is not: no seam is allowed.
  pub marked_blocked : protected ≤ get_or (sums (h - 1)) bottom 0 → is_none (marked_up how w h p m) ≡ true
  unfolding wrap_of
  marked_blocked l = ap is_none (heavy-blocked how w h p m sized.height_small costs-most seam.path seam.is (rw seam.price l))

-- Picture and marks in a space are those in the part at its front that holds just these.
module _ (z : Size) (space : List ℕ) where
  pub front-picture : picture_in z (take (marked_bytes z) space) ≡ picture_in z space
  front-picture = ap (picture z) (take-take (picture_bytes z) (marked_bytes z) space (omega arith))

  pub front-marks : picture_bytes z ≤ length space → marks_in z (take (marked_bytes z) space) ≡ marks_in z space
  front-marks l =
      let n = picture_bytes z in
      let marks = take (pixels z) (drop n space) in
      ap (rows_of z.width z.height)
      (ap (λ s. take (pixels z) (drop n s)) (take-add n (pixels z) space)
      ∙ ap (take (pixels z)) (drop_at (take n space) marks n (length-take-le n space l))
      ∙ take-take (pixels z) (pixels z) (drop n space) (omega arith))

  pub front-sized : Sized z (picture_bytes z) → marked_bytes z ≤ length space
      → Sized z (length (take (picture_bytes z) (take (marked_bytes z) space)))
  front-sized s l =
      rw (take-take (picture_bytes z) (marked_bytes z) space (omega arith), length-take-le (picture_bytes z) space (omega arith)) s

  pub front_bytes : ((i : ℕ) → get_or space i 0 ≤ 255)
      → (i : ℕ) → get_or (take (picture_bytes z) (take (marked_bytes z) space)) i 0 ≤ 255
  front_bytes byte = take_bytes (picture_bytes z) (take (marked_bytes z) space) (take_bytes (marked_bytes z) space byte)
