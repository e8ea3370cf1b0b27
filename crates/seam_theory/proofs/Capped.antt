-- Sums that stay at a number, `most`: a row of them is the row of sums, each that is more taken as `most`. Where the least is below it, it is
-- the same one.
use mathlib.Core.Path.{◌≡◌, refl, sym, ap, ap₂, ◌∙◌}
use mathlib.Core.Logic.{◌⊎◌, inl, inr}
use mathlib.Core.Bool.{false, cond}
use mathlib.Core.List.{List, [], ◌∷◌, map}
use Prim.Native.Nat.{ℕ, zero, suc, ◌+◌, ◌≤◌, ◌<◌, min}
use native.Mathlib.Omega.{arith}
use lib.Dec.{leb, ltb}
use lib.ListN.{get_or}
use borrow.Author.Tests.{le-leb, lt-leb, lt-ltb, le-ltb}
use Rattle.std.proofs.Math.ListN.{get_or-map}
use Rattle.std.proofs.lemmas.List.{map-append}
use Rattle.grids.specs.Table.{table}
use Rattle.grids.proofs.Orders.{le-or-lt}
use Rattle.grids.proofs.Tables.{table_same}
use Rattle.grids.proofs.Filled.{map-table}
use Rattle.seam_theory.specs.Sums.{CostRows, fenced, first_of3, left_sum, up_sum, right_sum, sum_of3, way_of3, least_to}
use Rattle.seam_theory.proofs.Ways.{way_plain}

-- Numbers that stay at `most` where they would be more.
abbrev pub capped : ℕ → List ℕ → List ℕ
capped most = map (min most)

module _ (most : ℕ) where
  pub capped_at : (x : List ℕ) (c : ℕ) → get_or (capped most x) c 0 ≡ min most (get_or x c 0)
  capped_at x c =
      let none : 0 ≡ min most 0 = omega arith in
      ap (get_or (capped most x) c) none ∙ get_or-map (min most) x c 0

  -- What isn't above it is as it was.
  pub capped_small : (x : List ℕ) → ((c : ℕ) → get_or x c 0 ≤ most) → capped most x ≡ x
  capped_small [] h = refl
  capped_small (a ∷ x) h =
      let first : a ≤ most = h 0 in
      let same : min most a ≡ a = omega (arith, first) in
      ap₂ ◌∷◌ same (capped_small x (λ c. h (suc c)))

  -- A row between its fences.
  pub capped_fenced : (fence w : ℕ) (s : List ℕ) → capped most (fenced false fence w s) ≡ fenced false (min most fence) w (capped most s)
  capped_fenced fence w s = ap (min most fence ∷◌) (map-append (min most) s (fence ∷ []))

  -- The sum of a column below such a row.
  pub capped_sum : (x : List ℕ) (k : CostRows) (c : ℕ) → min most (sum_of3 (capped most x) k c) ≡ min most (sum_of3 x k c)
  unfolding sum_of3
  capped_sum x k c = omega (arith, capped_at x c, capped_at x (c + 1), capped_at x (c + 2))

  -- It is the least of three such sums.
  pub capped_three : (x : List ℕ) (k : CostRows) (c : ℕ)
      → min (min most (left_sum x k c)) (min (min most (up_sum x k c)) (min most (right_sum x k c))) ≡ min most (sum_of3 x k c)
  unfolding sum_of3
  capped_three x k c = omega arith

  -- The sums of a whole row.
  pub capped_row : (x : List ℕ) (k : CostRows) (w : ℕ)
      → table (λ c. min most (sum_of3 (capped most x) k c)) w ≡ capped most (table (sum_of3 x k) w)
  capped_row x k w =
      table_same (λ c. min most (sum_of3 (capped most x) k c)) (λ c. min most (sum_of3 x k c)) w (λ c h. capped_sum x k c)
      ∙ sym (map-table (min most) (sum_of3 x k) w)

  -- Which of three is the least, where it is below.
  first_alike : (a b d a' b' d' : ℕ) → min most a' ≡ min most a → min most b' ≡ min most b → min most d' ≡ min most d
      → min a (min b d) < most → first_of3 a' b' d' ≡ first_of3 a b d
  unfolding first_of3
  first_alike a b d a' b' d' p q r low = go (le-or-lt a (min b d)) (le-or-lt b d)
    where
      go : (a ≤ min b d) ⊎ (min b d < a) → (b ≤ d) ⊎ (d < b)
          → ◌≡◌ {A = ℕ} (cond (leb a' (min b' d')) 0 (cond (leb b' d') 1 2)) (cond (leb a (min b d)) 0 (cond (leb b d) 1 2))
      go (inl l) m = rw (le-leb a (min b d) l, le-leb a' (min b' d') (omega (arith, p, q, r, low, l))) refl
      go (inr l) (inl m) = rw (
        lt-leb a (min b d) l,
        lt-leb a' (min b' d') (omega (arith, p, q, r, low, l)),
        le-leb b d m,
        le-leb b' d' (omega (arith, p, q, r, low, l, m)),
      ) refl
      go (inr l) (inr m) = rw (
        lt-leb a (min b d) l,
        lt-leb a' (min b' d') (omega (arith, p, q, r, low, l)),
        lt-leb b d m,
        lt-leb b' d' (omega (arith, p, q, r, low, l, m)),
      ) refl

  pub capped_way : (w : ℕ) (x : List ℕ) (k : CostRows) (c : ℕ) → sum_of3 x k c < most
      → way_of3 false w (capped most x) k c ≡ way_of3 false w x k c
  unfolding sum_of3
  capped_way w x k c low =
      let y = capped most x in
      way_plain false w y k c (inr refl) (inr refl)
      ∙ first_alike (left_sum x k c) (up_sum x k c) (right_sum x k c) (left_sum y k c) (up_sum y k c) (right_sum y k c)
      (omega (arith, capped_at x c)) (omega (arith, capped_at x (c + 1))) (omega (arith, capped_at x (c + 2))) low
      ∙ sym (way_plain false w x k c (inr refl) (inr refl))

  -- The first of the least among some columns, as it is found of such sums: how much it is, and which it is where it is below.
  pub record CappedLeast (s : List ℕ) (found first : ℕ) : Type 0 where
    pub sum : get_or (capped most s) found 0 ≡ min most (get_or s first 0)
    pub column : get_or s first 0 < most → found ≡ first

  pub capped_least : (s : List ℕ) (n : ℕ) → CappedLeast s (least_to (capped most s) n) (least_to s n)
  unfolding least_to
  capped_least s zero = record { sum = capped_at s 0; column = λ l. refl }
  capped_least s (suc n) = go (capped_least s n) (le-or-lt m v) (le-or-lt u w)
    where
      t : List ℕ
      t = capped most s

      v : ℕ
      v = get_or s (suc n) 0

      m : ℕ
      m = get_or s (least_to s n) 0

      w : ℕ
      w = get_or t (suc n) 0

      u : ℕ
      u = get_or t (least_to t n) 0

      go : CappedLeast s (least_to t n) (least_to s n) → (m ≤ v) ⊎ (v < m) → (u ≤ w) ⊎ (w < u)
          → CappedLeast s (cond (ltb w u) (suc n) (least_to t n)) (cond (ltb v m) (suc n) (least_to s n))
      go before (inl a) (inl b) = rw (le-ltb w u b, le-ltb v m a) before
      go before (inl a) (inr b) = absurd (omega (arith, before.sum, capped_at s (suc n), a, b))
      go before (inr a) (inr b) = rw (lt-ltb w u b, lt-ltb v m a) (record {
        sum = capped_at s (suc n);
        column = λ l. refl;
      })
      go before (inr a) (inl b) = rw (le-ltb w u b, lt-ltb v m a) (record {
        sum = before.sum ∙ omega (arith, before.sum, capped_at s (suc n), a, b);
        column = λ l. absurd (omega (arith, before.sum, capped_at s (suc n), a, b, l));
      })
