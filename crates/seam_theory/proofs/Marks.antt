-- Laws of the path found with marks: allowed, then with the most pixels to be removed, then the cheapest.
use mathlib.Core.Path.{◌≡◌, sym, ap, ◌∙◌}
use mathlib.Core.Logic.{◌⊎◌, inl, inr, ⊎_elim, ◌↔◌}
use mathlib.Core.Bool.{true, false, true≢false}
use mathlib.Core.Option.{none, some}
use mathlib.Core.List.Memᴰ
use mathlib.Core.List.{List, [], Memᴰ}
use Prim.Native.Nat.{ℕ, ◌≤◌, ◌<◌}
use native.Mathlib.Nat.{eq-or-lt_of_le, le_of_lt, le_of_eq, le_antisymm, ne_of_lt}
use native.Mathlib.Omega.{arith}
use lib.Dec.{leb, eqb}
use borrow.Author.Tests.{leb-true, leb-false, le-leb, lt-ltb, le-ltb, eqb-true, eq-eqb, ne_eqb}
use Rattle.seam_theory.specs.Best.{first_best, least}
use Rattle.seam_theory.specs.Paths.{select}
use Rattle.seam_theory.specs.Seams.{preferred, cheapest_allowed, Before, IsPreferred, Ascending}
use Rattle.seam_theory.proofs.Numbers.{Compared, compared}
use Rattle.seam_theory.proofs.Best.{best_none, best_same}
use Rattle.seam_theory.proofs.Ordered.{Order}
use Rattle.seam_theory.proofs.Least.{by_cost}
use Rattle.seam_theory.proofs.Members.{of_select, in_select, select-all, select-none}
use Rattle.seam_theory.proofs.Ascending.{asc_select}
use Rattle.seam_theory.proofs.Seams.{IsBest, best_is}

module _ (removed price : List ℕ → ℕ) where
  -- With more pixels to be removed a path is better.
  pub preferred-more : (p q : List ℕ) → removed q < removed p → preferred removed price p q ≡ true
  unfolding preferred
  preferred-more p q h = rw (lt-ltb (removed q) (removed p) h)

  -- With fewer it is worse.
  pub preferred_fewer : (p q : List ℕ) → removed p < removed q → preferred removed price p q ≡ false
  unfolding preferred
  preferred_fewer p q h = rw (le-ltb (removed q) (removed p) (le_of_lt h), ne_eqb (removed p) (removed q) (ne_of_lt h))

  -- With as many the price decides.
  pub preferred_equal : (p q : List ℕ) → removed p ≡ removed q → preferred removed price p q ≡ leb (price p) (price q)
  unfolding preferred
  preferred_equal p q e = rw (le-ltb (removed q) (removed p) (omega arith), eq-eqb (removed p) (removed q) e)

  -- The order, as inequations.
  abbrev pub Prefers : List ℕ → List ℕ → Type 0
  Prefers p q = (removed q < removed p) ⊎ ((removed p ≡ removed q) × (price p ≤ price q))

  -- It is the order.
  pub preferred_is : (p q : List ℕ) → (preferred removed price p q ≡ true) ↔ Prefers p q
  preferred_is p q = (go (compared (removed p) (removed q)), back)
    where
      go : Compared (removed p) (removed q) → preferred removed price p q ≡ true → Prefers p q
      go (inl l) h = inl l
      go (inr (inl e)) h = inr (e, leb-true (price p) (price q) (sym (preferred_equal p q e) ∙ h))
      go (inr (inr l)) h = absurd (true≢false (sym h ∙ preferred_fewer p q l))

      back : Prefers p q → preferred removed price p q ≡ true
      back (inl l) = preferred-more p q l
      back (inr k) = preferred_equal p q k.0 ∙ le-leb (price p) (price q) k.1

  -- It is a total preorder.
  pub preferred_order : Order (preferred removed price)
  preferred_order = record {
    total = λ p q e. other p q e (compared (removed p) (removed q));
    trans = λ p q r h k. chain p q r ((preferred_is p q).0 h) ((preferred_is q r).0 k);
  }
    where
      other : (p q : List ℕ) → preferred removed price p q ≡ false → Compared (removed p) (removed q) → preferred removed price q p ≡ true
      other p q e (inl l) = absurd (true≢false (sym (preferred-more p q l) ∙ e))
      other p q e (inr (inl s)) = (preferred_is q p).1 (inr (sym s, le_of_lt (leb-false (price p) (price q) (sym (preferred_equal p q s) ∙ e))))
      other p q e (inr (inr l)) = preferred-more q p l

      chain : (p q r : List ℕ) → Prefers p q → Prefers q r → preferred removed price p r ≡ true
      chain p q r (inl a) (inl b) = (preferred_is p r).1 (inl (omega arith))
      chain p q r (inl a) (inr b) = (preferred_is p r).1 (inl (omega arith))
      chain p q r (inr a) (inl b) = (preferred_is p r).1 (inl (omega arith))
      chain p q r (inr a) (inr b) = (preferred_is p r).1 (inr (omega arith, omega arith))

module _ (protected : List ℕ → ℕ) (xs : List (List ℕ)) where
  -- The allowed paths of a list.
  abbrev pub allowed : List (List ℕ)
  allowed = select (λ p. eqb (protected p) 0) xs

  -- They are members without a protected pixel.
  pub of_allowed : (p : List ℕ) → Memᴰ p allowed → Memᴰ p xs × (protected p ≡ 0)
  of_allowed p i =
      let r = of_select (λ p. eqb (protected p) 0) xs p i in
      (r.0, eqb-true (protected p) 0 r.1)

  -- They are all of these.
  pub in_allowed : (p : List ℕ) → Memᴰ p xs → protected p ≡ 0 → Memᴰ p allowed
  in_allowed p i e = in_select (λ p. eqb (protected p) 0) xs p i (eq-eqb (protected p) 0 e)

module _ (protected removed price : List ℕ → ℕ) (xs : List (List ℕ)) where
  to_best : (s : List ℕ) → IsPreferred protected removed price xs s → IsBest (preferred removed price) (allowed protected xs) s
  to_best s k = record {
    member = in_allowed protected xs s k.member k.allowed;
    good = λ p i. let a = of_allowed protected xs p i in ⊎_elim
        (λ e. (preferred_is removed price s p).1 (inr (sym e, k.cheap p a.0 a.1 e)))
        (λ l. preferred-more removed price s p l)
        (eq-or-lt_of_le (k.most p a.0 a.1));
    early = λ p i e. let a = of_allowed protected xs p i in ⊎_elim
        (λ l. absurd (omega (arith, k.most p a.0 a.1)))
        (λ q. k.early p a.0 a.1 q.0 (le_antisymm q.1 (k.cheap p a.0 a.1 q.0)))
        ((preferred_is removed price p s).0 e);
  }

  of_best : (s : List ℕ) → IsBest (preferred removed price) (allowed protected xs) s → IsPreferred protected removed price xs s
  of_best s b = record {
    member = (of_allowed protected xs s b.member).0;
    allowed = (of_allowed protected xs s b.member).1;
    most = λ p i a. ⊎_elim (λ l. omega arith) (λ q. omega arith) (told p i a);
    cheap = λ p i a e. ⊎_elim (λ l. omega arith) (λ q. q.1) (told p i a);
    early = λ p i a e l. b.early p (in_allowed protected xs p i a) ((preferred_is removed price p s).1 (inr (e, le_of_eq l)));
  }
    where
      told : (p : List ℕ) → Memᴰ p xs → protected p ≡ 0 → Prefers removed price s p
      told p i a = (preferred_is removed price s p).0 (b.good p (in_allowed protected xs p i a))

  -- The path found with marks is the preferred one, in a list in dictionary order.
  pub allowed_is : Ascending Before xs → (s : List ℕ) → (cheapest_allowed protected removed price xs ≡ some s) ↔ IsPreferred protected removed price xs s
  allowed_is up s = (λ e. of_best s (all.0 e), λ k. all.1 (to_best s k))
    where
      all : (cheapest_allowed protected removed price xs ≡ some s) ↔ IsBest (preferred removed price) (allowed protected xs) s
      all = best_is (preferred removed price) (preferred_order removed price) (allowed protected xs) (asc_select Before (λ p. eqb (protected p) 0) xs up) s

  -- None is found just where each path has a protected pixel.
  pub allowed-none : (cheapest_allowed protected removed price xs ≡ none) ↔ ((p : List ℕ) → Memᴰ p xs → protected p ≡ 0 → ⊥)
  allowed-none = (
    λ e p i a. Memᴰ.not-nil (rw (empty.0 e) at (in_allowed protected xs p i a)),
    λ k. empty.1 (select-none (λ p. eqb (protected p) 0) xs (λ p i. ne_eqb (protected p) 0 (k p i))),
  )
    where
      empty : (cheapest_allowed protected removed price xs ≡ none) ↔ (allowed protected xs ≡ [])
      empty = best_none (preferred removed price) (allowed protected xs)

  -- Where nothing is marked, marks change nothing.
  pub unmarked : ((p : List ℕ) → Memᴰ p xs → (protected p ≡ 0) × (removed p ≡ 0)) → cheapest_allowed protected removed price xs ≡ least price xs
  unmarked k =
      ap (first_best (preferred removed price)) (select-all (λ p. eqb (protected p) 0) xs (λ p i. eq-eqb (protected p) 0 (k p i).0))
      ∙ best_same (preferred removed price) (by_cost price) xs (λ p q i j. preferred_equal removed price p q ((k p i).1 ∙ sym (k q j).1))
