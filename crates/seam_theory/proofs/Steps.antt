-- The best column to come from: the first of several, ascending, at which a cost is least. In the terms of the loops that look
-- for it among three.
use mathlib.Core.Path.{◌≡◌, sym, ap, ◌∙◌}
use mathlib.Core.Logic.{◌⊎◌, inl, inr, ⊎_elim}
use mathlib.Core.Option.{some}
use mathlib.Core.List.Memᴰ
use mathlib.Core.List.{List, ◌∷◌, Memᴰ}
use Prim.Native.Nat.{ℕ, ◌≤◌, ◌<◌, min}
use native.Mathlib.Nat.{le_antisymm, le_of_lt, le_of_eq}
use native.Mathlib.Omega.{arith}
use borrow.Author.Tests.{leb-true, leb-false, le-leb, lt-leb}
use Rattle.grids.proofs.Orders.{le-or-lt}
use Rattle.seam_theory.specs.Best.{least}
use Rattle.seam_theory.specs.Sums.{first_of3, pick3}
use Rattle.seam_theory.proofs.Best.{best_some, best_mem}
use Rattle.seam_theory.proofs.First.{First, best-first, first-le}
use Rattle.seam_theory.proofs.Least.{by_cost, cost_order}
use Rattle.seam_theory.specs.Seams.{Ascending}
use Rattle.seam_theory.proofs.Ascending.{asc_after}

-- Of ascending numbers the first at which f is least: f is not less at another, and each at which it is the same is no smaller.
pub least_asc : (f : ℕ → ℕ) (cs : List ℕ) → Ascending ◌<◌ cs → (m : ℕ) → Memᴰ m cs
    → ((a : ℕ) → Memᴰ a cs → f m ≤ f a) → ((a : ℕ) → Memᴰ a cs → f a ≡ f m → m ≤ a) → least f cs ≡ some m
least_asc f cs up m i cheap early =
    let t = best_some (by_cost f) cs m i in
    t.1 ∙ ap some (same t.0 (best-first (by_cost f) (cost_order f) cs t.0 t.1) (best_mem (by_cost f) cs t.0 t.1))
  where
    same : (b : ℕ) → First (by_cost f) cs b → Memᴰ b cs → b ≡ m
    same b r j =
        let e : f b ≡ f m = le_antisymm (leb-true (f b) (f m) (first-le (by_cost f) (cost_order f) r m i)) (cheap b j) in
        le_antisymm (go e (Memᴰ.append_cases r.pre (rw r.split at i))) (early b j e)
      where
        go : f b ≡ f m → Memᴰ m r.pre ⊎ Memᴰ m (b ∷ r.post) → b ≤ m
        go e (inl k) = absurd (omega (arith, leb-false (f m) (f b) (r.before m k)))
        go e (inr k) = ⊎_elim (λ d. le_of_eq (sym d)) (λ l. le_of_lt (asc_after ◌<◌ r.pre b r.post (rw r.split at up) m l)) (Memᴰ.cases_cons k)

-- A column k that is one of cs and whose cost is v; or there is none, and v is more than the cost of a column that is.
abbrev pub Candidate : (ℕ → ℕ) → List ℕ → ℕ → ℕ → ℕ → Type 0
Candidate f cs own k v = (Memᴰ k cs × (f k ≡ v)) ⊎ (own < v)

-- Three columns, ascending, that are all of cs.
pub record Three (f : ℕ → ℕ) (cs : List ℕ) (own a b c x y z : ℕ) : Type 0 where
  pub ascending : Ascending ◌<◌ cs
  pub own_least : min x (min y z) ≤ own
  pub first : Candidate f cs own a x
  pub second : Candidate f cs own b y
  pub third : Candidate f cs own c z
  pub first_second : (own < x) ⊎ (a < b)
  pub first_third : (own < x) ⊎ (a < c)
  pub second_third : (own < y) ⊎ (b < c)
  pub all : (k : ℕ) → Memᴰ k cs → ((k ≡ a) × (f k ≡ x)) ⊎ (((k ≡ b) × (f k ≡ y)) ⊎ ((k ≡ c) × (f k ≡ z)))

module _ (f : ℕ → ℕ) (cs : List ℕ) (own a b c x y z : ℕ) (t : Three f cs own a b c x y z) where
  here : (k v : ℕ) → v ≤ own → Candidate f cs own k v → Memᴰ k cs × (f k ≡ v)
  here k v l (inl m) = m
  here k v l (inr h) = absurd (omega arith)

  before : (v j k : ℕ) → v ≤ own → (own < v) ⊎ (j < k) → j < k
  before v j k l (inl h) = absurd (omega arith)
  before v j k l (inr h) = h

  -- One of the three: none costs less, and one that costs the same is no smaller.
  one : (m v : ℕ) → v ≤ x → v ≤ y → v ≤ z → Memᴰ m cs × (f m ≡ v)
      → (x ≡ v → m ≤ a) → (y ≡ v → m ≤ b) → (z ≡ v → m ≤ c) → least f cs ≡ some m
  one m v p q r i d e g =
      least_asc f cs t.ascending m i.0
      (λ k j. ⊎_elim (λ h. omega (arith, i.1)) (λ h. ⊎_elim (λ h. omega (arith, i.1)) (λ h. omega (arith, i.1)) h) (t.all k j))
      (λ k j s. ⊎_elim (λ h. rw h.0 (d (sym h.1 ∙ s ∙ i.1)))
      (λ h. ⊎_elim (λ h. rw h.0 (e (sym h.1 ∙ s ∙ i.1))) (λ h. rw h.0 (g (sym h.1 ∙ s ∙ i.1))) h) (t.all k j))

  -- The first least of cs is the one that is picked,
  pub picked : least f cs ≡ some (pick3 a b c (first_of3 x y z))
  unfolding first_of3
  picked = go (le-or-lt x (min y z)) (le-or-lt y z)
    where
      go : (x ≤ min y z) ⊎ (min y z < x) → (y ≤ z) ⊎ (z < y) → least f cs ≡ some (pick3 a b c (first_of3 x y z))
      go (inl p) q =
          let l : x ≤ own = omega (arith, t.own_least) in
          rw (le-leb x (min y z) p)
          (one a x (omega arith) (omega arith) (omega arith) (here a x l t.first)
          (λ e. omega arith) (λ e. le_of_lt (before x a b l t.first_second)) (λ e. le_of_lt (before x a c l t.first_third)))
      go (inr p) (inl q) =
          let l : y ≤ own = omega (arith, t.own_least) in
          rw (lt-leb x (min y z) p, le-leb y z q)
          (one b y (omega arith) (omega arith) (omega arith) (here b y l t.second)
          (λ e. absurd (omega arith)) (λ e. omega arith) (λ e. le_of_lt (before y b c l t.second_third)))
      go (inr p) (inr q) =
          let l : z ≤ own = omega (arith, t.own_least) in
          rw (lt-leb x (min y z) p, lt-leb y z q)
          (one c z (omega arith) (omega arith) (omega arith) (here c z l t.third)
          (λ e. absurd (omega arith)) (λ e. absurd (omega arith)) (λ e. omega arith))

  -- and its cost is the least of the three.
  pub picked-cost : f (pick3 a b c (first_of3 x y z)) ≡ min x (min y z)
  unfolding first_of3
  picked-cost = go (le-or-lt x (min y z)) (le-or-lt y z)
    where
      go : (x ≤ min y z) ⊎ (min y z < x) → (y ≤ z) ⊎ (z < y) → f (pick3 a b c (first_of3 x y z)) ≡ min x (min y z)
      go (inl p) q = rw (le-leb x (min y z) p) (omega (arith, (here a x (omega (arith, t.own_least)) t.first).1))
      go (inr p) (inl q) = rw (lt-leb x (min y z) p, le-leb y z q) (omega (arith, (here b y (omega (arith, t.own_least)) t.second).1))
      go (inr p) (inr q) = rw (lt-leb x (min y z) p, lt-leb y z q) (omega (arith, (here c z (omega (arith, t.own_least)) t.third).1))
