-- What is found by costs that are kept is the seam of the picture whose costs they are. Of the costs only those of the picture's rows
-- count.
use mathlib.Core.Path.{◌≡◌, refl, sym, ap, ap₂, ◌∙◌}
use mathlib.Core.Bool.{Bool, true, false, cond, true≢false}
use mathlib.Core.Logic.{⊎_elim}
use mathlib.Core.Option
use mathlib.Core.List.{List, [], reverse}
use Prim.Native.Nat.{ℕ, zero, suc, ◌+◌, ◌-◌, ◌≤◌, ◌<◌}
use native.Mathlib.Nat.{mul-le-mul_right}
use native.Mathlib.Omega.{arith}
use lib.Dec.{ltb}
use lib.ListN.{length, get_or}
use borrow.Author.Tests.{lt-ltb, le-ltb}
use Rattle.grids.specs.Table.{table}
use Rattle.grids.specs.Rows.{flat}
use Rattle.grids.proofs.Orders.{le-or-lt}
use Rattle.grids.proofs.Tables.{length-table, table_at, table_same}
use Rattle.pictures.specs.Limits.{most_side}
use Rattle.pictures.specs.declared.sizes.Size.{Size}
use Rattle.pictures.specs.Refusals.{refusal}
use Rattle.pictures.specs.Pictures.{Picture, side_rules}
use Rattle.pictures.proofs.Limits.{sides_are}
use Rattle.pictures.proofs.Samples.{AreBytes}
use Rattle.energy.specs.declared.methods.Method.{Method}
use Rattle.energy.specs.Methods.{wrap_of}
use Rattle.energy.specs.Bounds.{most_energy}
use Rattle.energy.specs.Energy.{StepCosts, one_cost, costs_at, energy, step_of}
use Rattle.seam_theory.specs.PictureSeams.{seam_up, seam_of}
use Rattle.seam_theory.specs.Sums.{CostRows, cost_rows, alike_rows, fenced, sum_of3, way_of3, sums_down, ways_up, columns_to, least_to}
use Rattle.seam_theory.proofs.Bounded.{sums-most}
use Rattle.seam_theory.proofs.Alike.{rows_alike}
use Rattle.seam_theory.proofs.Toward.{rows-through}
use Rattle.seam_theory.proofs.Sums.{Costed, FoundPath, found}
use Rattle.seam_sums.specs.Fences.{fence32}
use Rattle.seam_planes.specs.Planes.{fronts, numbers_of}
use Rattle.seam_find.specs.ByCosts.{path_columns}
use Rattle.seam_find_kept.specs.Finding.{costs_in}
use Rattle.seam_find_kept.proofs.PlaneRows.{row_of, row-small}
use Rattle.seam_find_kept.proofs.KeptRows.{kept_by-one, kept_by-steps, kept_up}

-- Two families of costs that are alike in the first h rows.
module _ (fence w h : ℕ) (a b : ℕ → CostRows) (same : (i : ℕ) → i < h → a i ≡ b i) where
  sums-same : (i : ℕ) → i < h → sums_down false fence w a i ≡ sums_down false fence w b i
  unfolding sums_down
  sums-same zero l = ap (λ k. k.up) (same 0 l)
  sums-same (suc i) l = ap₂ (λ s k. table (sum_of3 (fenced false fence w s) k) w) (sums-same i (omega arith)) (same (suc i) l)

  ways-same : (i : ℕ) → i < h - 1 → ways_up false fence w a i ≡ ways_up false fence w b i
  unfolding ways_up
  ways-same i l = ap₂ (λ s k. table (way_of3 false w (fenced false fence w s) k) w) (sums-same i (omega arith)) (same (suc i) (omega arith))

  -- have the same cheapest path.
  path-same : 0 < h → path_columns fence w h a ≡ path_columns fence w h b
  path-same some =
      ap₂ (λ ways s. columns_to (flat ways) w (h - 1) (least_to s (w - 1)))
      (table_same (ways_up false fence w a) (ways_up false fence w b) (h - 1) ways-same)
      (sums-same (h - 1) (omega arith))

module _ (how : Method) (w h : ℕ) (q : Picture) (costs : ℕ → CostRows) (some-column : 0 < w) (some-row : 0 < h) (short : h ≤ most_side)
    (are : (i : ℕ) → i < h → costs i ≡ cost_rows w (costs_at how w h q i))
    (few : (i c : ℕ) → i < h → get_or (costs i).up c 0 ≤ most_energy) where
  -- The picture's costs, of rows that it has and of others,
  abbrev all : ℕ → CostRows
  all i = cost_rows w (costs_at how w h q i)

  -- and none in other rows.
  abbrev capped : ℕ → CostRows
  capped i = cond (ltb i h) (costs i) (alike_rows [])

  capped-is : (i : ℕ) → i < h → capped i ≡ costs i
  capped-is i l = ap (λ t. cond t (costs i) (alike_rows [])) (lt-ltb i h l)

  capped-few : (i c : ℕ) → get_or (capped i).up c 0 ≤ most_energy
  capped-few i c =
      ⊎_elim
      (λ (l : h ≤ i). omega (arith, ap (λ t. get_or (cond t (costs i) (alike_rows [])).up c 0) (le-ltb i h l)))
      (λ (l : i < h). omega (arith, ap (λ k. get_or k.up c 0) (capped-is i l), few i c l))
      (le-or-lt h i)

  capped-wide : length (capped 0).up ≡ w
  capped-wide = ap (λ k. length k.up) (capped-is 0 some-row ∙ are 0 some-row) ∙ length-table (energy how w h q 0) w

  -- Every sum is below the fence.
  low : (i c : ℕ) → i < h - 1 → c < w → get_or (sums_down false fence32 w all i) c 0 + get_or (all (suc i)).up c 0 < fence32
  low i c k l =
      let rows : suc i ≤ most_side = omega (arith, short) in
      let sum : get_or (sums_down false fence32 w capped i) c 0 ≡ get_or (sums_down false fence32 w all i) c 0 =
      ap (λ s. get_or s c 0) (sums-same fence32 w h capped all (λ j m. capped-is j m ∙ are j m) i (omega arith)) in
      let cost : get_or (costs (suc i)).up c 0 ≡ get_or (all (suc i)).up c 0 = ap (λ k. get_or k.up c 0) (are (suc i) (omega arith)) in
      omega (
        arith,
        sum,
        cost,
        few (suc i) c (omega arith),
        sums-most false fence32 w capped capped-wide most_energy capped-few i c l,
        mul-le-mul_right most_energy rows,
      )

  -- The cost rows are those of the picture's steps.
  costed : Costed false fence32 w h all (energy how w h q 0) (step_of how w h q)
  unfolding wrap_of
  costed = record {
    first_row_is = refl;
    rows = λ i s. rows-through false w (costs_at how w h q (suc i)) (λ e y. absurd (true≢false (sym y))) s;
    low = low;
  }

  seam : FoundPath false fence32 w h all (energy how w h q 0) (step_of how w h q)
  unfolding wrap_of
  seam = found false fence32 w h all (energy how w h q 0) (step_of how w h q) costed some-column some-row

  path_is : Option.get_or (seam_up how w h q) [] ≡ seam.path
  unfolding wrap_of
  path_is = ap (λ o. Option.get_or o []) seam.is

  seam-kept : path_columns fence32 w h costs ≡ seam_of how w h q
  unfolding seam_of
  seam-kept = path-same fence32 w h costs all are some-row ∙ seam.columns ∙ ap reverse (sym path_is)

-- The same of planes that hold the picture's costs: of coming from straight above, and where the three aren't alike from the left and from
-- the right.
module _ (how : Method) (z : Size) (w : ℕ) (q : Picture) (up left right : List ℕ) where
  row-held : (cost : StepCosts → ℕ) (plane : List ℕ)
      → fronts w (numbers_of z.width z.height plane) ≡ table (λ r. table (λ c. cost (costs_at how w z.height q r c)) w) z.height
      → (i : ℕ) → i < z.height → row_of z w i plane ≡ table (λ c. cost (costs_at how w z.height q i c)) w
  row-held cost plane holds i l =
      ap (λ p. get_or p i []) holds ∙ table_at (λ r. table (λ c. cost (costs_at how w z.height q r c)) w) z.height i [] l

  module _ (sides : refusal (side_rules z) ≡ 0) (some : 0 < w) (narrow : w ≤ z.width) (bytes : AreBytes up)
      (up-holds : fronts w (numbers_of z.width z.height up) ≡ table (λ r. table (λ c. (costs_at how w z.height q r c).up) w) z.height)
      (left-holds : one_cost how.energy ≡ false
      → fronts w (numbers_of z.width z.height left) ≡ table (λ r. table (λ c. (costs_at how w z.height q r c).left) w) z.height)
      (right-holds : one_cost how.energy ≡ false
      → fronts w (numbers_of z.width z.height right) ≡ table (λ r. table (λ c. (costs_at how w z.height q r c).right) w) z.height) where
    held : (i : ℕ) → i < z.height → costs_in how.energy z w up left right i ≡ cost_rows w (costs_at how w z.height q i)
    held i l = go (one_cost how.energy) refl
      where
        up-row : row_of z w i up ≡ table (λ c. (costs_at how w z.height q i c).up) w
        up-row = row-held (λ k. k.up) up up-holds i l

        go : (b : Bool) → one_cost how.energy ≡ b → costs_in how.energy z w up left right i ≡ cost_rows w (costs_at how w z.height q i)
        go true e =
            kept_by-one how.energy z w up left right i e ∙ ap alike_rows up-row ∙ sym (rows_alike how e w z.height q i)
        go false e =
            let l-row = row-held (λ k. k.left) left (left-holds e) i l in
            let r-row = row-held (λ k. k.right) right (right-holds e) i l in
            kept_by-steps how.energy z w up left right i e ∙ (λ j. record { left = l-row j; up = up-row j; right = r-row j })

    few : (i c : ℕ) → i < z.height → get_or (costs_in how.energy z w up left right i).up c 0 ≤ most_energy
    few i c l = omega (arith, ap (λ r. get_or r c 0) (kept_up how.energy z w up left right i), row-small z w i up narrow bytes c)

    pub seam-by-planes : path_columns fence32 w z.height (costs_in how.energy z w up left right) ≡ seam_of how w z.height q
    seam-by-planes =
        let s = sides_are z sides in
        seam-kept how w z.height q (costs_in how.energy z w up left right) some s.height_some s.height_small held few
