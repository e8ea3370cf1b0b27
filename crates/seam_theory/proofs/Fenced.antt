-- The three sums above a column, between fences or joined: each is the cost of coming from a column nearby, or from none and
-- dearer than staying in the column. So three candidates, in the order of their columns, are all columns nearby.
use mathlib.Core.Path.{◌≡◌, refl, sym, ap, ap₂, ◌∙◌}
use mathlib.Core.Logic.{◌⊎◌, inl, inr, ⊎_elim}
use mathlib.Core.Bool.{Bool, true, false, cond, true≢false}
use mathlib.Core.List.{List, [], ◌∷◌, Memᴰ}
use Prim.Native.Nat.{ℕ, ◌+◌, ◌-◌, ◌≤◌, ◌<◌}
use native.Mathlib.Nat.{eq-or-lt_of_le}
use native.Mathlib.Numerals.{add-one}
use native.Mathlib.Omega.{arith}
use lib.ListN.{length, get_or, get_or-append}
use lib.Seq.{get_or_at}
use Rattle.grids.proofs.Orders.{le-or-lt}
use Rattle.seam_theory.specs.Paths.{near, nearby}
use Rattle.seam_theory.specs.Sums.{CostRows, joined_at, fenced, left_sum, up_sum, right_sum}
use Rattle.seam_theory.proofs.Nearby.{nearby-mem, nearby_asc, nearby_self}
use Rattle.seam_theory.proofs.Joins.{Near, left, same, right, over_left, over_right, joined_is, near-cases, near-beside, near-over}
use Rattle.seam_theory.proofs.Ways.{HasLeft, HasRight}
use Rattle.seam_theory.proofs.Steps.{Three}

-- What the costs have to do with the cost f c a of coming to c by way of a.
pub record Through (join : Bool) (w : ℕ) (s : List ℕ) (k : CostRows) (f : ℕ → ℕ → ℕ) : Type 0 where
  pub left_is : (c : ℕ) → c + 1 < w → f (c + 1) c ≡ get_or s c 0 + get_or k.left (c + 1) 0
  pub up_is : (c : ℕ) → c < w → f c c ≡ get_or s c 0 + get_or k.up c 0
  pub right_is : (c : ℕ) → c + 1 < w → f c (c + 1) ≡ get_or s (c + 1) 0 + get_or k.right c 0
  pub over_left : join ≡ true → f 0 (w - 1) ≡ get_or s (w - 1) 0 + get_or k.left 0 0
  pub over_right : join ≡ true → f (w - 1) 0 ≡ get_or s 0 0 + get_or k.right (w - 1) 0

-- A row of sums s and the costs k of the row below it, where f c a is the cost of coming to column c of that row by way of
-- column a: the costs say what f says, and staying in a column costs less than the fence.
pub record Above (wrap : Bool) (fence w : ℕ) (s : List ℕ) (k : CostRows) (f : ℕ → ℕ → ℕ) : Type 0 where
  pub wide : length s ≡ w
  pub through : Through (joined_at wrap w) w s k f
  pub low : (c : ℕ) → c < w → get_or s c 0 + get_or k.up c 0 < fence

module _ (wrap : Bool) (fence w : ℕ) (s : List ℕ) (k : CostRows) (f : ℕ → ℕ → ℕ) (row : Above wrap fence w s k f) where
  abbrev join : Bool
  join = joined_at wrap w

  abbrev x : List ℕ
  x = fenced wrap fence w s

  -- What stands at the left side of the row of sums, between its sides, and at its right side.
  first_at : (j : ℕ) → j ≡ 0 → get_or x j 0 ≡ cond join (get_or s (w - 1) 0) fence
  first_at j e = ap (λ n. get_or x n 0) e

  inner_at : (j c : ℕ) → j ≡ c + 1 → c < w → get_or x j 0 ≡ get_or s c 0
  inner_at j c e h = ap (λ n. get_or x n 0) (e ∙ add-one c) ∙ get_or-append s (cond join (get_or s 0 0) fence ∷ []) 0 c (rw row.wide h)

  last_at : (j : ℕ) → j ≡ w + 1 → get_or x j 0 ≡ cond join (get_or s 0 0) fence
  last_at j e = ap (λ n. get_or x n 0) (e ∙ add-one w) ∙ get_or_at s (cond join (get_or s 0 0) fence) [] 0 w row.wide

  -- A column that is near is one to come from.
  mem : (c a : ℕ) → a < w → near wrap w c a ≡ true → Memᴰ a (nearby wrap w c)
  mem c a h e = (nearby-mem wrap w c a).1 (h, e)

  module _ (c : ℕ) (h : c < w) where
    -- The three sums, where there is a column to come from.
    pub up-sum : f c c ≡ up_sum x k c
    up-sum = row.through.up_is c h ∙ ap (◌+ get_or k.up c 0) (sym (inner_at (c + 1) c refl h))

    left-sum : (a : ℕ) → a + 1 ≡ c → f c a ≡ left_sum x k c
    left-sum a e = (rw e at (row.through.left_is a (omega arith))) ∙ ap (◌+ get_or k.left c 0) (sym (inner_at c a (sym e) (omega arith)))

    right-sum : (a : ℕ) → a ≡ c + 1 → a < w → f c a ≡ right_sum x k c
    right-sum a e l = ap (f c) e ∙ row.through.right_is c (omega arith) ∙ ap (◌+ get_or k.right c 0) (sym (inner_at (c + 2) (c + 1) (omega arith) (omega arith)))

    -- At a fence there is none.
    pub left-fence : c ≡ 0 → joined_at wrap w ≡ false → f c c < left_sum x k c
    left-fence e j =
        let d : get_or x c 0 ≡ fence = first_at c e ∙ ap (λ b. cond b (get_or s (w - 1) 0) fence) j in
        omega (arith, row.low c h, row.through.up_is c h)

    pub right-fence : c + 1 ≡ w → joined_at wrap w ≡ false → f c c < right_sum x k c
    right-fence e j =
        let d : get_or x (c + 2) 0 ≡ fence = last_at (c + 2) (omega arith) ∙ ap (λ b. cond b (get_or s 0 0) fence) j in
        omega (arith, row.low c h, row.through.up_is c h)

    -- So is one beside c, and c itself.
    beside-mem : (a : ℕ) → a < w → a ≤ c + 1 → c ≤ a + 1 → Memᴰ a (nearby wrap w c)
    beside-mem a l p q = mem c a l (near-beside wrap w c a p q)

    own : Memᴰ c (nearby wrap w c) × (f c c ≡ up_sum x k c)
    own = (nearby_self wrap w c h, up-sum)

    -- Neither end of the row is joined to the other here: the columns to the left, here and to the right.
    pub plain-three : HasLeft (joined_at wrap w) c → HasRight (joined_at wrap w) w c
        → Three (f c) (nearby wrap w c) (f c c) (c - 1) c (c + 1) (left_sum x k c) (up_sum x k c) (right_sum x k c)
    plain-three p q = record {
      ascending = nearby_asc wrap w c;
      own_least = omega (arith, up-sum);
      first = left-side (λ l. inl (beside-mem (c - 1) (omega arith) (omega arith) (omega arith), left-sum (c - 1) (omega arith))) inr;
      second = inl own;
      third = right_side (λ l. inl (beside-mem (c + 1) l (omega arith) (omega arith), right-sum (c + 1) refl l)) inr;
      first_second = left-side (λ l. inr (omega arith)) inl;
      first_third = left-side (λ l. inr (omega arith)) inl;
      second_third = inr (omega arith);
      all = λ a m. let n = (nearby-mem wrap w c a).0 m in columns a n.0 (near-cases wrap w c a h n.0 n.1);
    }
      where
        left-side : {A : Type 0} → (0 < c → A) → (f c c < left_sum x k c → A) → A
        left-side u v = ⊎_elim (λ l. u l) (λ j. ⊎_elim (λ (e : c ≤ 0). v (left-fence (omega arith) j)) (λ (l : 0 < c). u l) (le-or-lt c 0)) p

        right_side : {A : Type 0} → (c + 1 < w → A) → (f c c < right_sum x k c → A) → A
        right_side u v = ⊎_elim (λ l. u l) (λ j. ⊎_elim (λ e. v (right-fence e j)) (λ l. u l) (eq-or-lt_of_le (omega arith))) q

        columns : (a : ℕ) → a < w → Near (joined_at wrap w) w c a
            → ((a ≡ c - 1) × (f c a ≡ left_sum x k c)) ⊎ (((a ≡ c) × (f c a ≡ up_sum x k c)) ⊎ ((a ≡ c + 1) × (f c a ≡ right_sum x k c)))
        columns a l (left e) = inl (omega arith, left-sum a e)
        columns a l (same e) = inr (inl (e, ap (f c) e ∙ up-sum))
        columns a l (right e) = inr (inr (e, right-sum a e l))
        columns a l (over_left j e d) = absurd (⊎_elim (λ (m : 0 < c). omega arith) (λ n. true≢false (sym j ∙ n)) p)
        columns a l (over_right j e d) = absurd (⊎_elim (λ (m : c + 1 < w). omega arith) (λ n. true≢false (sym j ∙ n)) q)

  -- At the join there are at least three columns.
  module _ (j : joined_at wrap w ≡ true) where
    many : 2 < w
    many = (joined_is wrap w j).1

    -- The sums across the join.
    over-left-sum : (c a : ℕ) → c ≡ 0 → a + 1 ≡ w → f c a ≡ left_sum x k c
    over-left-sum c a e d =
        let m : a ≡ w - 1 = omega arith in
        ap₂ f e m ∙ row.through.over_left j
        ∙ sym (ap₂ ◌+◌ (first_at c e ∙ ap (λ b. cond b (get_or s (w - 1) 0) fence) j) (ap (λ n. get_or k.left n 0) e))

    over-right-sum : (c a : ℕ) → c + 1 ≡ w → a ≡ 0 → f c a ≡ right_sum x k c
    over-right-sum c a e d =
        let m : c ≡ w - 1 = omega arith in
        ap₂ f m d ∙ row.through.over_right j
        ∙ sym (ap₂ ◌+◌ (last_at (c + 2) (omega arith) ∙ ap (λ b. cond b (get_or s 0 0) fence) j) (ap (λ n. get_or k.right n 0) m))

    -- At the first column: here, to the right, and the last one.
    pub first_three : Three (f 0) (nearby wrap w 0) (f 0 0) 0 1 (w - 1) (up_sum x k 0) (right_sum x k 0) (left_sum x k 0)
    first_three =
        let h : 0 < w = omega (arith, many) in
        record {
          ascending = nearby_asc wrap w 0;
          own_least = omega (arith, up-sum 0 h);
          first = inl (own 0 h);
          second = inl (beside-mem 0 h 1 (omega (arith, many)) (omega arith) (omega arith), right-sum 0 h 1 refl (omega (arith, many)));
          third = inl (mem 0 (w - 1) (omega arith) (near-over wrap w 0 (w - 1) j (inl (refl, omega arith))), over-left-sum 0 (w - 1) refl (omega arith));
          first_second = inr (omega arith);
          first_third = inr (omega (arith, many));
          second_third = inr (omega (arith, many));
          all = λ a m. let n = (nearby-mem wrap w 0 a).0 m in columns h a n.0 (near-cases wrap w 0 a h n.0 n.1);
        }
      where
        columns : 0 < w → (a : ℕ) → a < w → Near (joined_at wrap w) w 0 a
            → ((a ≡ 0) × (f 0 a ≡ up_sum x k 0)) ⊎ (((a ≡ 1) × (f 0 a ≡ right_sum x k 0)) ⊎ ((a ≡ w - 1) × (f 0 a ≡ left_sum x k 0)))
        columns h a l (left e) = absurd (omega arith)
        columns h a l (same e) = inl (e, ap (f 0) e ∙ up-sum 0 h)
        columns h a l (right e) = inr (inl (e, right-sum 0 h a e l))
        columns h a l (over_left i e d) = inr (inr (omega arith, over-left-sum 0 a refl d))
        columns h a l (over_right i e d) = absurd (omega (arith, many))

    -- At the last column: the first one, to the left, and here.
    pub last-three : (c : ℕ) → c + 1 ≡ w → Three (f c) (nearby wrap w c) (f c c) 0 (c - 1) c (right_sum x k c) (left_sum x k c) (up_sum x k c)
    last-three c e =
        let h : c < w = omega arith in
        record {
          ascending = nearby_asc wrap w c;
          own_least = omega (arith, up-sum c h);
          first = inl (mem c 0 (omega arith) (near-over wrap w c 0 j (inr (refl, e))), over-right-sum c 0 e refl);
          second = inl (beside-mem c h (c - 1) (omega arith) (omega arith) (omega arith), left-sum c h (c - 1) (omega (arith, many)));
          third = inl (own c h);
          first_second = inr (omega (arith, many));
          first_third = inr (omega (arith, many));
          second_third = inr (omega (arith, many));
          all = λ a m. let n = (nearby-mem wrap w c a).0 m in columns h a n.0 (near-cases wrap w c a h n.0 n.1);
        }
      where
        columns : c < w → (a : ℕ) → a < w → Near (joined_at wrap w) w c a
            → ((a ≡ 0) × (f c a ≡ right_sum x k c)) ⊎ (((a ≡ c - 1) × (f c a ≡ left_sum x k c)) ⊎ ((a ≡ c) × (f c a ≡ up_sum x k c)))
        columns h a l (left d) = inr (inl (omega arith, left-sum c h a d))
        columns h a l (same d) = inr (inr (d, ap (f c) d ∙ up-sum c h))
        columns h a l (right d) = absurd (omega arith)
        columns h a l (over_left i d g) = absurd (omega (arith, many))
        columns h a l (over_right i d g) = inl (d, over-right-sum c a e d)
