-- One row of sums as a loop works it out, three numbers above each column, is the theory's: the way of a column leads to the
-- column from which the cheapest path comes, and the sum is its cost.
use mathlib.Core.Path.{◌≡◌, refl, sym, ap, ◌∙◌}
use mathlib.Core.Logic.{◌⊎◌, inl, inr, ⊎_elim}
use mathlib.Core.Bool.{Bool, true, false}
use mathlib.Core.List.{List}
use Prim.Native.Nat.{ℕ, ◌+◌, ◌-◌, ◌≤◌, ◌<◌, min}
use native.Mathlib.Nat.{eq-or-lt_of_le}
use native.Mathlib.Omega.{arith}
use borrow.Author.Tests.{le-leb, lt-leb, eq-eqb, ne_eqb}
use Rattle.grids.proofs.Orders.{le-or-lt}
use Rattle.seam_theory.specs.Paths.{nearby}
use Rattle.seam_theory.specs.Sums.{first_of3, pick3, CostRows, joined_at, fenced, left_sum, up_sum, right_sum, sum_of3, way_of3, came_from}
use Rattle.seam_theory.proofs.Rows.{least_in, least_in_is}
use Rattle.seam_theory.proofs.Joins.{joined_is}
use Rattle.seam_theory.proofs.Ways.{came_last, came_first, came_to, HasLeft, HasRight, way_plain}
use Rattle.seam_theory.proofs.Steps.{Three, picked, picked-cost}
use Rattle.seam_theory.proofs.Fenced.{Above, left-fence, right-fence, plain-three, first_three, last-three}

module _ (wrap : Bool) (fence w : ℕ) (s : List ℕ) (k : CostRows) (f : ℕ → ℕ → ℕ) (row : Above wrap fence w s k f) where
  abbrev join : Bool
  join = joined_at wrap w

  abbrev x : List ℕ
  x = fenced wrap fence w s

  many : joined_at wrap w ≡ true → 2 < w
  many j = (joined_is wrap w j).1

  -- Where the way of a column leads, and the sum there.
  record Led (c : ℕ) : Type 0 where
    way : came_from w c (way_of3 wrap w x k c) ≡ least_in (nearby wrap w c) (f c) c
    sum : sum_of3 x k c ≡ f c (least_in (nearby wrap w c) (f c) c)

  -- What is picked of three is where the way leads.
  led_by : (c a b d u v y : ℕ) (turn : ℕ → ℕ) → c < w → Three (f c) (nearby wrap w c) (f c c) a b d u v y
      → way_of3 wrap w x k c ≡ turn (first_of3 u v y) → sum_of3 x k c ≡ min u (min v y)
      → (u ≤ f c c → came_from w c (turn 0) ≡ a) → (v ≤ f c c → came_from w c (turn 1) ≡ b) → (y ≤ f c c → came_from w c (turn 2) ≡ d) → Led c
  unfolding first_of3
  led_by c a b d u v y turn h of3 is sum p q r = record {
    way = ap (came_from w c) is ∙ go (le-or-lt u (min v y)) (le-or-lt v y) ∙ sym from_is;
    sum = sum ∙ sym (picked-cost (f c) (nearby wrap w c) (f c c) a b d u v y of3) ∙ ap (f c) (sym from_is);
  }
    where
      from_is : least_in (nearby wrap w c) (f c) c ≡ pick3 a b d (first_of3 u v y)
      from_is = least_in_is (nearby wrap w c) (f c) c (pick3 a b d (first_of3 u v y)) (picked (f c) (nearby wrap w c) (f c c) a b d u v y of3)

      go : (u ≤ min v y) ⊎ (min v y < u) → (v ≤ y) ⊎ (y < v) → came_from w c (turn (first_of3 u v y)) ≡ pick3 a b d (first_of3 u v y)
      go (inl m) n = rw (le-leb u (min v y) m) (p (omega (arith, of3.own_least)))
      go (inr m) (inl n) = rw (lt-leb u (min v y) m, le-leb v y n) (q (omega (arith, of3.own_least)))
      go (inr m) (inr n) = rw (lt-leb u (min v y) m, lt-leb v y n) (r (omega (arith, of3.own_least)))

  -- Where no neighbour is across the join: left, here, right. A way to a fence is never the least.
  plain-led : (c : ℕ) → c < w → HasLeft join c → HasRight join w c → Led c
  unfolding sum_of3
  plain-led c h p q =
      led_by c (c - 1) c (c + 1) (left_sum x k c) (up_sum x k c) (right_sum x k c) (λ n. n) h (plain-three wrap fence w s k f row c h p q)
      (way_plain wrap w x k c p q) refl
      (λ l. came_to w c 0 (c - 1) (to-left p l) (omega arith))
      (λ l. came_to w c 1 c refl h)
      (λ l. came_to w c 2 (c + 1) (omega arith) (to-right q l))
    where
      to-left : HasLeft join c → left_sum x k c ≤ f c c → c + 0 ≡ c - 1 + 1
      to-left (inl l) m = omega arith
      to-left (inr j) m = ⊎_elim (λ (e : c ≤ 0). absurd (omega (arith, left-fence wrap fence w s k f row c h (omega arith) j))) (λ (l : 0 < c). omega arith) (le-or-lt c 0)

      to-right : HasRight join w c → right_sum x k c ≤ f c c → c + 1 < w
      to-right (inl l) m = l
      to-right (inr j) m = ⊎_elim (λ (e : w ≤ c + 1). absurd (omega (arith, right-fence wrap fence w s k f row c h (omega arith) j))) (λ l. l) (le-or-lt w (c + 1))

  -- At the first column of a joined row: here, right, and the last.
  first-led : join ≡ true → Led 0
  unfolding sum_of3 way_of3
  first-led j =
      let l = many j in
      led_by 0 0 1 (w - 1) (up_sum x k 0) (right_sum x k 0) (left_sum x k 0) (pick3 1 2 0) (omega arith) (first_three wrap fence w s k f row j)
      (rw j) (omega arith)
      (λ m. came_to w 0 1 0 refl (omega arith))
      (λ m. came_to w 0 2 1 refl (omega arith))
      (λ m. came_last w 0 0 refl)

  -- At its last column: the first, left, and here.
  last_led : join ≡ true → (c : ℕ) → c + 1 ≡ w → Led c
  unfolding sum_of3 way_of3
  last_led j c e =
      let l = many j in
      led_by c 0 (c - 1) c (right_sum x k c) (left_sum x k c) (up_sum x k c) (pick3 2 0 1) (omega arith) (last-three wrap fence w s k f row j c e)
      (rw (j, ne_eqb c 0 (λ n. omega arith), eq-eqb (c + 1) w e)) (omega arith)
      (λ m. came_first w c 2 (omega arith))
      (λ m. came_to w c 0 (c - 1) (omega arith) (omega arith))
      (λ m. came_to w c 1 c refl (omega arith))

  -- So at every column.
  led : (c : ℕ) → c < w → Led c
  led c h = go join refl
    where
      go : (b : Bool) → join ≡ b → Led c
      go false j = plain-led c h (inr j) (inr j)
      go true j =
          ⊎_elim
          (λ (e : c ≤ 0). let z : c ≡ 0 = omega arith in rw z (first-led j))
          (λ (l : 0 < c). ⊎_elim (last_led j c) (λ m. plain-led c h (inl l) (inl m)) (eq-or-lt_of_le (omega arith)))
          (le-or-lt c 0)

  -- The way leads to the column from which the theory comes, and the sum is the theory's.
  pub way_from : (c : ℕ) → c < w → came_from w c (way_of3 wrap w (fenced wrap fence w s) k c) ≡ least_in (nearby wrap w c) (f c) c
  way_from c h = (led c h).way

  pub sum-from : (c : ℕ) → c < w → sum_of3 (fenced wrap fence w s) k c ≡ f c (least_in (nearby wrap w c) (f c) c)
  sum-from c h = (led c h).sum
