-- One number that orders paths as the marks and the price do, so that a program has one sum to make least.
use mathlib.Core.Path.{◌≡◌, refl, sym, ap, ap₂, ◌∙◌}
use mathlib.Core.Logic.{inl, inr, ⊎_elim}
use mathlib.Core.Bool.{true, false}
use mathlib.Core.Option.{Option, none, some}
use mathlib.Core.List.{List, Memᴰ}
use Prim.Native.Nat.{ℕ, ◌+◌, ◌*◌, ◌%◌, ◌≤◌, ◌<◌}
use native.Mathlib.Nat.{le_of_lt, zero-mul, mul-le-mul_right, add-mul-mod_self_right, mod-eq_of_lt, eq-zero-or-pos, pos_of_ne-zero}
use native.Mathlib.Omega.{arith}
use lib.Dec.{leb, eqb}
use borrow.Author.Tests.{leb-true, le-leb, lt-leb, eqb-true, eqb-false}
use Rattle.seam_theory.specs.Best.{first_best, least}
use Rattle.seam_theory.specs.Seams.{preferred, cheapest_allowed}
use Rattle.seam_theory.proofs.Numbers.{Compared, compared, leb_add}
use Rattle.seam_theory.proofs.Best.{best_some, best_mem, best_same}
use Rattle.seam_theory.proofs.First.{best-first, first-le, best_select}
use Rattle.seam_theory.proofs.Least.{by_cost, cost_order}
use Rattle.seam_theory.proofs.Marks.{preferred-more, preferred_fewer, preferred_equal, allowed, of_allowed, allowed-none}

-- The weight of a path: its price, B for each pixel that is kept, that is not marked to be removed, and T for each that is
-- protected.
abbrev pub weight : (List ℕ → ℕ) → (List ℕ → ℕ) → (List ℕ → ℕ) → ℕ → ℕ → List ℕ → ℕ
weight protected kept price B T p = price p + (kept p * B + protected p * T)

-- A path of h pixels for which B is more than its price, and T more than its weight if none of its pixels is protected.
pub record Weighed (kept removed price : List ℕ → ℕ) (B T h : ℕ) (p : List ℕ) : Type 0 where
  pub pixels : kept p + removed p ≡ h
  pub below : price p < B
  pub light : kept p * B + price p < T

module _ (protected kept price : List ℕ → ℕ) (B T : ℕ) (p : List ℕ) where
  -- Without protected pixels.
  pub weight-plain : protected p ≡ 0 → weight protected kept price B T p ≡ price p + kept p * B
  weight-plain e = let z : protected p * T ≡ 0 = ap (λ n. n * T) e ∙ zero-mul T in omega arith

  -- With one it is at least T.
  pub weight-heavy : 0 < protected p → T ≤ weight protected kept price B T p
  weight-heavy l = omega (arith, mul-le-mul_right T l)

  -- So a weight below T has none.
  pub weight-allowed : weight protected kept price B T p < T → protected p ≡ 0
  weight-allowed l = ⊎_elim (λ e. e) (λ k. absurd (omega (arith, weight-heavy k))) (eq-zero-or-pos (protected p))

module _ (protected removed price kept : List ℕ → ℕ) (B T h : ℕ) (xs : List (List ℕ))
    (weighed : (p : List ℕ) → Memᴰ p xs → Weighed kept removed price B T h p) where
  abbrev weight_of : List ℕ → ℕ
  weight_of = weight protected kept price B T

  plain : (p : List ℕ) → protected p ≡ 0 → weight_of p ≡ price p + kept p * B
  plain = weight-plain protected kept price B T

  -- The weight of an allowed path is below T.
  pub weight_light : (p : List ℕ) → Memᴰ p xs → protected p ≡ 0 → weight protected kept price B T p < T
  weight_light p i e = omega (arith, plain p e, weighed p i)

  -- The price is a remainder of it.
  pub weight-price : (p : List ℕ) → Memᴰ p xs → weight protected kept price B T p < T → price p ≡ weight protected kept price B T p % B
  weight-price p i l =
      sym (ap (λ n. n % B) (plain p (weight-allowed protected kept price B T p l)) ∙ add-mul-mod_self_right (price p) (kept p) B ∙ mod-eq_of_lt (weighed p i).below)

  -- Of allowed paths the one with more pixels to be removed is lighter,
  lighter : (p q : List ℕ) → Memᴰ p xs × (protected p ≡ 0) → Memᴰ q xs × (protected q ≡ 0) → removed q < removed p → weight_of p < weight_of q
  lighter p q i j l =
      let a = weighed p i.0 in
      let b = weighed q j.0 in
      let k : kept p < kept q = omega arith in
      omega (arith, plain p i.1, plain q j.1, mul-le-mul_right B k)

  -- and so the weight decides as the marks and the price do.
  same_order : (p q : List ℕ) → Memᴰ p xs × (protected p ≡ 0) → Memᴰ q xs × (protected q ≡ 0) → by_cost weight_of p q ≡ preferred removed price p q
  same_order p q i j = go (compared (removed p) (removed q))
    where
      go : Compared (removed p) (removed q) → by_cost weight_of p q ≡ preferred removed price p q
      go (inl l) = le-leb (weight_of p) (weight_of q) (le_of_lt (lighter p q i j l)) ∙ sym (preferred-more removed price p q l)
      go (inr (inl e)) =
          let a = weighed p i.0 in
          let b = weighed q j.0 in
          let k : kept p ≡ kept q = omega arith in
          ap₂ leb (plain p i.1 ∙ ap (λ n. price p + n * B) k) (plain q j.1)
          ∙ leb_add (price p) (price q) (kept q * B) ∙ sym (preferred_equal removed price p q e)
      go (inr (inr l)) = lt-leb (weight_of p) (weight_of q) (lighter q p j i l) ∙ sym (preferred_fewer removed price p q l)

  -- A path that is allowed is lighter than one that is not.
  apart : (p q : List ℕ) → Memᴰ p xs → Memᴰ q xs → eqb (protected p) 0 ≡ true → eqb (protected q) 0 ≡ false
      → (by_cost weight_of p q ≡ true) × (by_cost weight_of q p ≡ false)
  apart p q i j a b =
      let l : weight_of p < T = weight_light p i (eqb-true (protected p) 0 a) in
      let k : T ≤ weight_of q = weight-heavy protected kept price B T q (pos_of_ne-zero (eqb-false (protected q) 0 b)) in
      (le-leb (weight_of p) (weight_of q) (omega arith), lt-leb (weight_of q) (weight_of p) (omega arith))

  -- Where a path is found with marks, it is the first of least weight, and its weight is below T.
  pub weights-some : (s : List ℕ) → cheapest_allowed protected removed price xs ≡ some s
      → (least (weight protected kept price B T) xs ≡ some s) × (weight protected kept price B T s < T)
  weights-some s e = (best_select (by_cost weight_of) (λ p. eqb (protected p) 0) xs apart s (same ∙ e), weight_light s a.0 a.1)
    where
      same : first_best (by_cost weight_of) (allowed protected xs) ≡ cheapest_allowed protected removed price xs
      same =
          best_same (by_cost weight_of) (preferred removed price) (allowed protected xs)
          (λ p q i j. same_order p q (of_allowed protected xs p i) (of_allowed protected xs q j))

      a : Memᴰ s xs × (protected s ≡ 0)
      a = of_allowed protected xs s (best_mem (preferred removed price) (allowed protected xs) s e)

  -- Where none is found, the first of least weight weighs T or more.
  pub weights-none : cheapest_allowed protected removed price xs ≡ none → (p : List ℕ) → Memᴰ p xs
      → (s : List ℕ) × (least (weight protected kept price B T) xs ≡ some s) × (T ≤ weight protected kept price B T s)
  weights-none e p i =
      let t = best_some (by_cost weight_of) xs p i in
      let none_allowed = (allowed-none protected removed price xs).0 e t.0 (best_mem (by_cost weight_of) xs t.0 t.1) in
      (t.0, t.1, weight-heavy protected kept price B T t.0 (pos_of_ne-zero none_allowed))

  -- The other way round: if the first of least weight weighs less than T, it is the path found with marks.
  pub weights-found : (s : List ℕ) → least (weight protected kept price B T) xs ≡ some s → weight protected kept price B T s < T
      → cheapest_allowed protected removed price xs ≡ some s
  weights-found s e l = go (cheapest_allowed protected removed price xs) refl
    where
      go : (o : Option (List ℕ)) → cheapest_allowed protected removed price xs ≡ o → cheapest_allowed protected removed price xs ≡ some s
      go none n = absurd ((allowed-none protected removed price xs).0 n s (best_mem (by_cost weight_of) xs s e) (weight-allowed protected kept price B T s l))
      go (some t) n = n ∙ sym (weights-some t n).0 ∙ e

  -- If it weighs T or more, none is found.
  pub weights_blocked : (s : List ℕ) → least (weight protected kept price B T) xs ≡ some s → T ≤ weight protected kept price B T s
      → cheapest_allowed protected removed price xs ≡ none
  weights_blocked s e l = (allowed-none protected removed price xs).1 (λ p i a. omega (arith, least-le p i, weight_light p i a))
    where
      least-le : (p : List ℕ) → Memᴰ p xs → weight_of s ≤ weight_of p
      least-le p i =
          leb-true (weight_of s) (weight_of p)
          (first-le (by_cost weight_of) (cost_order weight_of) (best-first (by_cost weight_of) (cost_order weight_of) xs s e) p i)
