-- What the path found is: the cheapest, and of those the first in dictionary order.
use mathlib.Core.Path.{◌≡◌, sym, ◌∙◌}
use mathlib.Core.Logic.{◌⊎◌, inl, inr, ⊎_elim, ◌↔◌}
use mathlib.Core.Bool.{Bool, true, true≢false}
use mathlib.Core.Option.{some}
use mathlib.Core.List.Memᴰ
use mathlib.Core.List.{List, ◌∷◌, Memᴰ}
use Prim.Native.Nat.{ℕ, ◌<◌}
use native.Mathlib.Nat.{le_of_eq, le_antisymm}
use borrow.Author.Tests.{leb-true, le-leb}
use Rattle.seam_theory.specs.Best.{first_best, least}
use Rattle.seam_theory.specs.Paths.{paths, cost, nearby}
use Rattle.seam_theory.specs.Seams.{cheapest, Before, IsCheapest, Ascending}
use Rattle.seam_theory.proofs.Best.{best_some}
use Rattle.seam_theory.proofs.Ordered.{Order}
use Rattle.seam_theory.proofs.First.{First, first-mem, first-le, best-first}
use Rattle.seam_theory.proofs.Least.{by_cost, cost_order}
use Rattle.seam_theory.proofs.Ascending.{asc_after, before_asym}
use Rattle.seam_theory.proofs.Nearby.{nearby-paths_asc, some-path}

module _ (le : List ℕ → List ℕ → Bool) where
  -- By any order: one of xs, as good as each, and each that is as good is it or comes after it.
  pub record IsBest (xs : List (List ℕ)) (s : List ℕ) : Type 0 where
    pub member : Memᴰ s xs
    pub good : (p : List ℕ) → Memᴰ p xs → le s p ≡ true
    pub early : (p : List ℕ) → Memᴰ p xs → le p s ≡ true → (p ≡ s) ⊎ Before s p

  -- There is at most one.
  pub best_unique : {xs : List (List ℕ)} {s t : List ℕ} → IsBest xs s → IsBest xs t → s ≡ t
  best_unique {s} {t} p q = go (p.early t q.member (q.good s p.member)) (q.early s p.member (p.good t q.member))
    where
      go : (t ≡ s) ⊎ Before s t → (s ≡ t) ⊎ Before t s → s ≡ t
      go (inl e) k = sym e
      go (inr b) (inl e) = e
      go (inr b) (inr d) = absurd (before_asym s t b d)

  -- Of a list in dictionary order that is the first best.
  pub best_is : Order le → (xs : List (List ℕ)) → Ascending Before xs → (s : List ℕ) → (first_best le xs ≡ some s) ↔ IsBest xs s
  best_is order xs up s = (λ e. found s (best-first le order xs s e), back)
    where
      found : (m : List ℕ) → First le xs m → IsBest xs m
      found m r = record { member = first-mem le r; good = first-le le order r; early = λ p i e. later p e (Memᴰ.append_cases r.pre (rw r.split at i)) }
        where
          later : (p : List ℕ) → le p m ≡ true → Memᴰ p r.pre ⊎ Memᴰ p (m ∷ r.post) → (p ≡ m) ⊎ Before m p
          later p e (inl i) = absurd (true≢false (sym e ∙ r.before p i))
          later p e (inr i) = ⊎_elim inl (λ j. inr (asc_after Before r.pre m r.post (rw r.split at up) p j)) (Memᴰ.cases_cons i)

      back : IsBest xs s → first_best le xs ≡ some s
      back b =
          let t = best_some le xs s b.member in
          rw (best_unique b (found t.0 (best-first le order xs t.0 t.1))) t.1

module _ (price : List ℕ → ℕ) (xs : List (List ℕ)) where
  cheapest_best : (s : List ℕ) → IsCheapest price xs s ↔ IsBest (by_cost price) xs s
  cheapest_best s = (
    λ k. record {
      member = k.member;
      good = λ p i. le-leb (price s) (price p) (k.cheap p i);
      early = λ p i e. k.early p i (le_antisymm (leb-true (price p) (price s) e) (k.cheap p i));
    },
    λ b. record {
      member = b.member;
      cheap = λ p i. leb-true (price s) (price p) (b.good p i);
      early = λ p i e. b.early p i (le-leb (price p) (price s) (le_of_eq e));
    },
  )

  -- There is at most one cheapest.
  pub cheapest_unique : (s t : List ℕ) → IsCheapest price xs s → IsCheapest price xs t → s ≡ t
  cheapest_unique s t p q = best_unique (by_cost price) ((cheapest_best s).0 p) ((cheapest_best t).0 q)

  -- Of a list in dictionary order it is the first that costs least.
  pub least_is : Ascending Before xs → (s : List ℕ) → (least price xs ≡ some s) ↔ IsCheapest price xs s
  least_is up s = (λ e. (cheapest_best s).1 (all.0 e), λ k. all.1 ((cheapest_best s).0 k))
    where
      all : (least price xs ≡ some s) ↔ IsBest (by_cost price) xs s
      all = best_is (by_cost price) (cost_order price) xs up s

module _ (first : ℕ → ℕ) (step : ℕ → ℕ → ℕ → ℕ) (wrap : Bool) (w h : ℕ) where
  -- The path found is the cheapest.
  pub cheapest_is : (s : List ℕ) → (cheapest (nearby wrap w) first step w h ≡ some s) ↔ IsCheapest (cost first step) (paths (nearby wrap w) w h) s
  cheapest_is s = least_is (cost first step) (paths (nearby wrap w) w h) (nearby-paths_asc wrap w h) s

  -- One is found in every grid.
  pub cheapest-some : 0 < w → 0 < h → (s : List ℕ) × (cheapest (nearby wrap w) first step w h ≡ some s) × IsCheapest (cost first step) (paths (nearby wrap w) w h) s
  cheapest-some k l =
      let p = some-path wrap w h k l in
      let t = best_some (by_cost (cost first step)) (paths (nearby wrap w) w h) p.0 p.1 in
      (t.0, t.1, (cheapest_is t.0).0 t.1)
