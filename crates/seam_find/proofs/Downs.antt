-- The rows of sums and ways, one after the other: what holds before row i, and that one row more keeps it.
use mathlib.Core.Path.{◌≡◌, refl, sym, ap, ap₂, ◌∙◌}
use mathlib.Core.Bool.{false}
use mathlib.Core.List.{List, [], ◌∷◌, ◌++◌, append_assoc}
use Prim.Native.Nat.{ℕ, suc, ◌+◌, ◌-◌, ◌*◌, ◌≤◌, ◌<◌, min}
use native.Mathlib.Nat.{zero-mul, add-zero, suc-mul, mul-le-mul_right}
use native.Mathlib.Numerals.{add-one}
use native.Mathlib.Omega.{arith}
use lib.ListN.{length, length-map, get_or, take, drop, length-append, length-drop, take-append-drop}
use lib.Seq.{take_at, drop_at, drop-drop, length-take-le}
use Rattle.grids.specs.Table.{table}
use Rattle.grids.specs.Rows.{flat}
use Rattle.grids.proofs.Tables.{length-table}
use Rattle.grids.proofs.Rows.{flat_snoc}
use Rattle.pictures.specs.declared.sizes.Size.{Size}
use Rattle.seam_theory.specs.Sums.{CostRows, fenced, way_of3, sums_down}
use Rattle.seam_theory.proofs.Bounded.{fenced_at, length-sums}
use Rattle.seam_theory.proofs.Capped.{capped_at}
use Rattle.seam_theory.proofs.Kept.{kept_sums, kept_ways, kept_ways-long, kept_next}
use Rattle.seam_find.specs.Inner.Down.{ways_at, RowGiven}

module _ (most fence from : ℕ) (z : Size) (costsIn : List ℕ → ℕ → CostRows) (start : List ℕ) where
  abbrev costs : ℕ → CostRows
  costs = costsIn (take from start)

  abbrev sums : ℕ → List ℕ
  sums = sums_down false fence z.width (costsIn (take from start))

  abbrev ways : ℕ → List ℕ
  ways = kept_ways most fence z.width (costsIn (take from start))

  -- Before row i: the sums of the row above it as they are kept, and the ways between the rows above it.
  pub record Downs (i : ℕ) (space above : List ℕ) : Type 0 where
    pub above-is : above ≡ kept_sums most fence z.width (costsIn (take from start)) (i - 1)
    pub space_is : space ≡ take from start ++ (flat (table (kept_ways most fence z.width (costsIn (take from start))) (i - 1)) ++ drop (ways_at from z i) start)
    pub long : length space ≡ length start

  module _ (length-costs : (i : ℕ) → length (costsIn (take from start) i).up ≡ z.width) where
    pub above-long : (i : ℕ) (space above : List ℕ) → Downs i space above → length above ≡ z.width + 2
    above-long i space above d =
        ap length d.above-is
        ∙ length-map (fenced false fence z.width (sums (i - 1))) (min most)
        ∙ omega (arith, length-append (sums (i - 1)) (fence ∷ []), length-sums false fence z.width costs (length-costs 0) (i - 1))

    -- The sums above row i.
    pub above_at : (i : ℕ) (space above : List ℕ) → Downs i space above
        → (k : ℕ) → k < z.width → get_or above (k + 1) 0 ≡ min most (get_or (sums_down false fence z.width (costsIn (take from start)) (i - 1)) k 0)
    above_at i space above d k h =
        ap (λ x. get_or x (k + 1) 0) d.above-is
        ∙ capped_at most (fenced false fence z.width (sums (i - 1))) (k + 1)
        ∙ ap (min most) (fenced_at false fence z.width (sums (i - 1)) k (omega (arith, length-sums false fence z.width costs (length-costs 0) (i - 1))))

    module _ (room : from + (z.height - 1) * z.width ≤ length start) where
      pub down-start : (above : List ℕ) → above ≡ kept_sums most fence z.width costs 0 → Downs 1 start above
      down-start above e = record {
        above-is = e;
        space_is = rw (zero-mul z.width, add-zero from) (sym (take-append-drop from start));
        long = refl;
      }

      length_front : length (take from start) ≡ from
      length_front = length-take-le from start (omega arith)

      length-ways : (n : ℕ) → length (flat (table ways n)) ≡ n * z.width
      length-ways n = kept_ways-long most fence z.width costs n

      -- The front of the space is the picture.
      pub down-front : (i : ℕ) (space above : List ℕ) → Downs i space above → take from space ≡ take from start
      down-front i space above d = ap (take from) d.space_is ∙ take_at (take from start) (flat (table ways (i - 1)) ++ drop (ways_at from z i) start) from length_front

      -- One row more, row j + 1.
      module _ (j : ℕ) (space above space' above' : List ℕ) (h : suc j < z.height) (d : Downs (suc j) space above) (g : RowGiven most (min most fence) from z costsIn (suc j) space above space' above') where
        one : suc j - 1 ≡ j
        one = omega arith

        two : suc (suc j) - 1 ≡ suc j
        two = omega arith

        above-was : above ≡ kept_sums most fence z.width costs j
        above-was = rw one at d.above-is

        done : List ℕ
        done = take from start ++ flat (table ways j)

        here : ℕ
        here = from + j * z.width

        done_long : length done ≡ here
        unfolding done here
        done_long = omega (arith, length-append (take from start) (flat (table ways j)), length_front, length-ways j)

        space-was : space ≡ done ++ drop here start
        unfolding done here
        space-was = rw one at d.space_is ∙ sym (append_assoc (take from start) (flat (table ways j)) (drop (from + j * z.width) start))

        next_at : ways_at from z (suc (suc j)) ≡ here + z.width
        unfolding here
        next_at = rw two (omega (arith, suc-mul j z.width))

        space-now : space' ≡ done ++ (ways j ++ drop (ways_at from z (suc (suc j))) start)
        unfolding here
        space-now =
            (rw (one, above-was, down-front (suc j) space above d) at g.ways)
            ∙ ap₂ (λ x y. x ++ (table (way_of3 false z.width (kept_sums most fence z.width costs j) (costs (suc j))) z.width ++ y))
            (ap (take (from + j * z.width)) space-was ∙ take_at done (drop here start) (from + j * z.width) done_long)
            (sym (drop-drop z.width (from + j * z.width) space)
            ∙ ap (drop z.width) (ap (drop (from + j * z.width)) space-was ∙ drop_at done (drop here start) (from + j * z.width) done_long)
            ∙ drop-drop z.width here start ∙ ap (λ n. drop n start) (sym next_at))

        rest : List ℕ
        rest = drop (ways_at from z (suc (suc j))) start

        now-long : length space' ≡ length start
        unfolding here
        now-long =
            let below : suc j * z.width ≤ (z.height - 1) * z.width = mul-le-mul_right z.width (omega arith) in
            omega (
              arith,
              ap length space-now,
              length-append done (ways j ++ drop (ways_at from z (suc (suc j))) start),
              length-append (ways j) (drop (ways_at from z (suc (suc j))) start),
              length-drop (ways_at from z (suc (suc j))) start,
              length-table (way_of3 false z.width (kept_sums most fence z.width costs j) (costs (suc j))) z.width,
              next_at,
              done_long,
              suc-mul j z.width,
            )

        pub turn : Downs (suc (suc j)) space' above'
        unfolding done rest
        turn = record {
          above-is =
              (rw (above-was, down-front (suc j) space above d) at g.sums)
              ∙ kept_next most fence z.width costs j
              ∙ ap (kept_sums most fence z.width costs) (sym two);
          space_is =
              space-now
              ∙ append_assoc (take from start) (flat (table ways j)) (ways j ++ rest)
              ∙ ap (take from start ++◌) (sym (append_assoc (flat (table ways j)) (ways j) rest) ∙ ap (◌++ rest) (sym (flat_snoc (table ways j) (ways j)) ∙ ap (λ n. flat (table ways n)) (sym two)));
          long = now-long;
        }

      pub down_turn : (i : ℕ) (space above space' above' : List ℕ) → 0 < i → i < z.height → Downs i space above → RowGiven most (min most fence) from z costsIn i space above space' above' → Downs (i + 1) space' above'
      down_turn i space above space' above' p h d g = go (i - 1) (omega arith) h d g
        where
          go : (j : ℕ) → i ≡ suc j → i < z.height → Downs i space above → RowGiven most (min most fence) from z costsIn i space above space' above' → Downs (i + 1) space' above'
          go j e h d g = rw (add-one i, e) (turn j space above space' above' (rw e at h) (rw e at d) (rw e at g))
