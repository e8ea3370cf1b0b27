-- Row i alone: where its ways and its sums are put, and the bounds of its ways.
use mathlib.Core.Path.{◌≡◌, sym, ap, ap₂, ◌∙◌}
use mathlib.Core.Bool.{false}
use mathlib.Core.List.{List, [], ◌∷◌, ◌++◌}
use Prim.Native.Nat.{ℕ, zero, suc, ◌+◌, ◌-◌, ◌*◌, ◌≤◌, ◌<◌}
use native.Mathlib.Nat.{mul-le-mul, add-sub_cancel_left, le_trans, min-le_left}
use native.Mathlib.Numerals.{add-one}
use native.Mathlib.Omega.{arith}
use mathlib.Core.Logic.{⊎_elim}
use Rattle.grids.proofs.Orders.{le-or-lt}
use borrow.Rule.Slice.PartMut.{put_mid, mid_of}
use lib.ListN.{length, get_or, take, drop, length-drop, length-take, get_or-eq_default}
use lib.Seq.{drop_at, length-take-le, get_or-take, get_or-drop}
use Rattle.grids.specs.Table.{table}
use Rattle.grids.proofs.Rows.{part_end}
use Rattle.grids.proofs.Parts.{put_part, part_length}
use Rattle.pictures.specs.Limits.{most_side, most_pixels}
use Rattle.pictures.specs.declared.sizes.Size.{Size}
use Rattle.pictures.proofs.Limits.{Sides}
use Rattle.seam_theory.specs.Sums.{CostRows, fenced, way_of3}
use Rattle.seam_theory.proofs.Kept.{kept_sum}
use Rattle.seam_find.specs.Inner.Down.{RowNeeded, RowWorked, RowGiven}

-- A row put between the fences of another.
refenced : (fence w : ℕ) (above t : List ℕ) → length above ≡ w + 2 → above ≡ fenced false fence w (take w (drop 1 above))
    → take 1 above ++ (t ++ drop (w + 1) above) ≡ fenced false fence w t
refenced fence w above t e f =
    let s = take w (drop 1 above) in
    let long : length (take w (drop 1 above)) ≡ w = length-take-le w (drop 1 above) (omega (arith, length-drop 1 above)) in
    ap (λ x. take 1 x ++ (t ++ drop (w + 1) x)) f
    ∙ rw (add-one w) (ap (λ r. fence ∷ (t ++ r)) (drop_at s (fence ∷ []) w long))

-- Its ways put in their place, where q is from and n the width; its sums,
pub row-worked : (most from : ℕ) (z : Size) (costsIn : List ℕ → ℕ → CostRows) (i q n : ℕ) (space above ways : List ℕ) (cost : CostRows) (next : List ℕ)
    → q ≡ from → q + (i - 1) * z.width + z.width ≤ length space → cost ≡ costsIn (take from space) i → n ≡ z.width
    → ways ≡ table (way_of3 false n above cost) n → next ≡ table (kept_sum most above cost) n
    → RowWorked most from z costsIn i space above
    (put_mid (q + (i - 1) * z.width) (q + (i - 1) * z.width + z.width - (q + (i - 1) * z.width)) space ways)
    next
row-worked most from z costsIn i q n space above ways cost next e end k l told m =
    let w = z.width in
    let a = q + (i - 1) * w in
    let row = costsIn (take from space) i in
    record {
      ways =
          put_part a (a + w) space ways (omega arith)
          ∙ ap (λ r. take a space ++ (r ++ drop (a + w) space)) (told ∙ ap₂ (λ x y. table (way_of3 false y above x) y) k l)
          ∙ ap (λ b. take (b + (i - 1) * w) space ++ (table (way_of3 false w above row) w ++ drop (b + (i - 1) * w + w) space)) e;
      sums = m ∙ ap₂ (λ x y. table (kept_sum most above x) y) k l;
    }

-- and these put between the fences.
pub row-given : {most end from : ℕ} {z : Size} {costsIn : List ℕ → ℕ → CostRows} {i : ℕ} {space above space' next copied : List ℕ} {energies steps n : ℕ}
    → RowNeeded end from z i space above energies steps n → RowWorked most from z costsIn i space above space' next → copied ≡ next
    → RowGiven most end from z costsIn i space above space' (put_mid 1 (z.width + 1 - 1) above copied)
row-given {most} {end} {from} {z} {costsIn} {i} {space} {above} {space'} {next} {copied} needed worked is = record {
  ways = worked.ways;
  sums =
      put_part 1 (z.width + 1) above copied (omega arith)
      ∙ refenced end z.width above copied needed.long needed.fences
      ∙ ap (fenced false end z.width) (is ∙ worked.sums);
}

-- A row whose sums aren't over the fence, between its fences.
within : (fence : ℕ) (s : List ℕ) → ((k : ℕ) → get_or s k 0 ≤ fence) → (k : ℕ) → get_or (s ++ (fence ∷ [])) k 0 ≤ fence
within fence [] h zero = omega arith
within fence [] h (suc k) = omega arith
within fence (x ∷ s) h zero = h 0
within fence (x ∷ s) h (suc k) = within fence s (λ i. h (suc i)) k

pub sums-within : {fence w : ℕ} {above : List ℕ} → above ≡ fenced false fence w (take w (drop 1 above))
    → ((k : ℕ) → k < w → get_or above (k + 1) 0 ≤ fence) → (c : ℕ) → get_or above c 0 ≤ fence
sums-within {fence} {w} {above} fences small c = rw fences (go c)
  where
    inner : (k : ℕ) → get_or (take w (drop 1 above)) k 0 ≤ fence
    inner k =
        ⊎_elim
        (λ (l : w ≤ k). rw (get_or-eq_default (take w (drop 1 above)) 0 {n = k} (le_trans (rw (length-take) (min-le_left w (length (drop 1 above)))) l)) (omega arith))
        (λ (l : k < w).
        let one : 1 + k ≡ k + 1 = omega arith in
        rw (get_or-take w (drop 1 above) k 0 l, get_or-drop 1 above k 0, one) (omega (arith, small k l)))
        (le-or-lt w k)

    go : (k : ℕ) → get_or (fenced false fence w (take w (drop 1 above))) k 0 ≤ fence
    go zero = omega arith
    go (suc k) = within fence (take w (drop 1 above)) inner k

-- The bounds of row i's ways, where q is from: they end within the space, and have a place for each column.
pub record WaysEnd (z : Size) (q i : ℕ) (space : List ℕ) (next : ℕ) : Type 0 where
  pub few : (i - 1) * z.width ≤ most_pixels
  pub end : q + (i - 1) * z.width + z.width ≤ length space
  pub wide :
      length (mid_of (q + (i - 1) * z.width) (q + (i - 1) * z.width + z.width - (q + (i - 1) * z.width)) space) ≡ next

pub ways-end : {end from : ℕ} {z : Size} {i : ℕ} {space above : List ℕ} {energies steps next : ℕ}
    → RowNeeded end from z i space above energies steps next → Sides z → (q : ℕ) → q ≡ from → WaysEnd z q i space next
ways-end {z = z} {i = i} {space = space} n s q e =
    let a = q + (i - 1) * z.width in
    let row : i - 1 ≤ most_side = omega (arith, n.inside, s.height_small) in
    let last = part_end (i - 1) (z.height - 1) z.width (omega (arith, n.later, n.inside)) in
    let end : a + z.width ≤ length space = omega (arith, n.room) in
    record {
      few = mul-le-mul row s.width_small;
      end = end;
      wide = part_length a (a + z.width) space end ∙ add-sub_cancel_left a z.width ∙ sym n.next_room;
    }
