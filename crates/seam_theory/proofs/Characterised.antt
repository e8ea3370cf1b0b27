-- The seams found are those that `Chosen` describes, and no others.
use mathlib.Core.Path.{◌≡◌, refl, sym, ap, ◌∙◌}
use mathlib.Core.Logic.{inl, inr, ⊎_elim, ◌↔◌}
use mathlib.Core.Bool.{Bool, true, false, cond}
use mathlib.Core.Option.{get_or, none, some, some-injective}
use mathlib.Core.List.{List, [], ◌∷◌, reverse, Memᴰ}
use Prim.Native.Nat.{ℕ, ◌<◌}
use native.Mathlib.Nat.{pos_of_ne-zero, eq-zero-or-pos, le_of_eq}
use native.Mathlib.Omega.{arith}
use lib.Dec.{eqb}
use lib.ListN.{length}
use borrow.Author.Tests.{eqb-true}
use Rattle.seam_theory.specs.Paths.{paths, nearby, along}
use Rattle.seam_theory.specs.Connected.{IsPath}
use Rattle.seam_theory.specs.Seams.{IsCheapest, IsPreferred}
use Rattle.seam_theory.proofs.Along.{along-nil, along-cons, along-most}
use Rattle.seam_theory.proofs.Nearby.{nearby-paths, nearby-paths_asc}
use Rattle.seam_theory.proofs.Seams.{cheapest_is, cheapest-some}
use Rattle.seam_theory.proofs.Marks.{allowed_is, allowed-none, unmarked}
use Rattle.pictures.specs.Pictures.{Picture}
use Rattle.energy.specs.declared.methods.Method.{Method}
use Rattle.energy.specs.Methods.{wrap_of}
use Rattle.energy.specs.Energy.{energy, step_of}
use Rattle.seam_theory.specs.PictureSeams.{path_cost, seam_up, seam_of, cost_of, mark_at, is_mark, marked_up, marked_seam_of, marked_cost_of}
use Rattle.seam_theory.specs.Chosen.{IsSeam, Touches, IsMarkedSeam}

-- A path touches a protected pixel just where it has one.
touched : (m : List (List ℕ)) (q : List ℕ) → Touches m q → 0 < along (is_mark 1 m) q
touched m [] t = absurd t
touched m (c ∷ q) (inl e) =
    let one : is_mark 1 m (length q) c ≡ 1 = ap (λ k. cond (eqb k 1) 1 0) e in
    omega (arith, along-cons (is_mark 1 m) c q)
touched m (c ∷ q) (inr t) = omega (arith, along-cons (is_mark 1 m) c q, touched m q t)

touching : (m : List (List ℕ)) (q : List ℕ) → 0 < along (is_mark 1 m) q → Touches m q
touching m [] l = absurd (omega (arith, along-nil (is_mark 1 m)))
touching m (c ∷ q) l = go (touching m q) (eqb (mark_at m (length q) c) 1) refl
  where
    go : (0 < along (is_mark 1 m) q → Touches m q) → (t : Bool) → eqb (mark_at m (length q) c) 1 ≡ t → Touches m (c ∷ q)
    go ih true e = inl (eqb-true (mark_at m (length q) c) 1 e)
    go ih false e =
        let z : is_mark 1 m (length q) c ≡ 0 = ap (λ k. cond k 1 0) e in
        inr (ih (omega (arith, along-cons (is_mark 1 m) c q)))

untouched : (m : List (List ℕ)) (q : List ℕ) → (Touches m q → ⊥) → along (is_mark 1 m) q ≡ 0
untouched m q n = ⊎_elim (λ e. e) (λ l. absurd (n (touching m q l))) (eq-zero-or-pos (along (is_mark 1 m) q))

untouching : (m : List (List ℕ)) (q : List ℕ) → along (is_mark 1 m) q ≡ 0 → Touches m q → ⊥
untouching m q e t = omega (arith, touched m q t)

module _ (how : Method) (w h : ℕ) (p : Picture) where
  -- The seam found without marks is the cheapest of all paths,
  pub seam-cheapest : (s : List ℕ) → (seam_up how w h p ≡ some s) ↔ IsCheapest (path_cost how w h p) (paths (nearby (wrap_of how) w) w h) s
  seam-cheapest s = cheapest_is (energy how w h p 0) (step_of how w h p) (wrap_of how) w h s

  listed_seam : (s : List ℕ) → IsCheapest (path_cost how w h p) (paths (nearby (wrap_of how) w) w h) s → IsSeam how w h p s
  listed_seam s k = record {
    path = (nearby-paths (wrap_of how) w h s).0 k.member;
    cheap = λ t i. k.cheap t ((nearby-paths (wrap_of how) w h t).1 i);
    early = λ t i. k.early t ((nearby-paths (wrap_of how) w h t).1 i);
  }

  seam_listed : (s : List ℕ) → IsSeam how w h p s → IsCheapest (path_cost how w h p) (paths (nearby (wrap_of how) w) w h) s
  seam_listed s k = record {
    member = (nearby-paths (wrap_of how) w h s).1 k.path;
    cheap = λ t i. k.cheap t ((nearby-paths (wrap_of how) w h t).0 i);
    early = λ t i. k.early t ((nearby-paths (wrap_of how) w h t).0 i);
  }

  -- said without a list of them;
  pub seam_is : (s : List ℕ) → (seam_up how w h p ≡ some s) ↔ IsSeam how w h p s
  seam_is s = (λ e. listed_seam s ((seam-cheapest s).0 e), λ k. (seam-cheapest s).1 (seam_listed s k))

  -- there is one,
  pub seam-some : 0 < w → 0 < h → (s : List ℕ) × (seam_up how w h p ≡ some s) × IsSeam how w h p s
  seam-some k l =
      let t = cheapest-some (energy how w h p 0) (step_of how w h p) (wrap_of how) w h k l in
      (t.0, t.1, listed_seam t.0 t.2)

  -- and only one.
  pub seam_unique : (s t : List ℕ) → IsSeam how w h p s → IsSeam how w h p t → s ≡ t
  seam_unique s t a b = some-injective s t (sym ((seam_is s).1 a) ∙ (seam_is t).1 b)

module _ (how : Method) (w h : ℕ) (p : Picture) (m : List (List ℕ)) where
  -- The seam found with marks is the preferred one of all paths that are allowed,
  pub marked_preferred : (s : List ℕ) → (marked_up how w h p m ≡ some s)
      ↔ IsPreferred (along (is_mark 1 m)) (along (is_mark 2 m)) (path_cost how w h p) (paths (nearby (wrap_of how) w) w h) s
  marked_preferred s = allowed_is (along (is_mark 1 m)) (along (is_mark 2 m)) (path_cost how w h p) (paths (nearby (wrap_of how) w) w h) (nearby-paths_asc (wrap_of how) w h) s

  listed_marked : (s : List ℕ) → IsPreferred (along (is_mark 1 m)) (along (is_mark 2 m)) (path_cost how w h p) (paths (nearby (wrap_of how) w) w h) s → IsMarkedSeam how w h p m s
  listed_marked s k = record {
    path = (nearby-paths (wrap_of how) w h s).0 k.member;
    free = untouching m s k.allowed;
    most = λ t i n. k.most t ((nearby-paths (wrap_of how) w h t).1 i) (untouched m t n);
    cheap = λ t i n. k.cheap t ((nearby-paths (wrap_of how) w h t).1 i) (untouched m t n);
    early = λ t i n. k.early t ((nearby-paths (wrap_of how) w h t).1 i) (untouched m t n);
  }

  marked_listed : (s : List ℕ) → IsMarkedSeam how w h p m s → IsPreferred (along (is_mark 1 m)) (along (is_mark 2 m)) (path_cost how w h p) (paths (nearby (wrap_of how) w) w h) s
  marked_listed s k = record {
    member = (nearby-paths (wrap_of how) w h s).1 k.path;
    allowed = untouched m s k.free;
    most = λ t i n. k.most t ((nearby-paths (wrap_of how) w h t).0 i) (untouching m t n);
    cheap = λ t i n. k.cheap t ((nearby-paths (wrap_of how) w h t).0 i) (untouching m t n);
    early = λ t i n. k.early t ((nearby-paths (wrap_of how) w h t).0 i) (untouching m t n);
  }

  -- said without a list of them;
  pub marked_is : (s : List ℕ) → (marked_up how w h p m ≡ some s) ↔ IsMarkedSeam how w h p m s
  marked_is s = (λ e. listed_marked s ((marked_preferred s).0 e), λ k. (marked_preferred s).1 (marked_listed s k))

  -- there is only one,
  pub marked_unique : (s t : List ℕ) → IsMarkedSeam how w h p m s → IsMarkedSeam how w h p m t → s ≡ t
  marked_unique s t a b = some-injective s t (sym ((marked_is s).1 a) ∙ (marked_is t).1 b)

  -- and none just where each path touches a protected pixel.
  pub marked_none : (marked_up how w h p m ≡ none) ↔ ((q : List ℕ) → IsPath (wrap_of how) w h q → Touches m q)
  marked_none = (
    λ e q i. touching m q (pos_of_ne-zero (all.0 e q ((nearby-paths (wrap_of how) w h q).1 i))),
    λ k. all.1 (λ q i a. untouching m q a (k q ((nearby-paths (wrap_of how) w h q).0 i))),
  )
    where
      all : (marked_up how w h p m ≡ none) ↔ ((q : List ℕ) → Memᴰ q (paths (nearby (wrap_of how) w) w h) → along (is_mark 1 m) q ≡ 0 → ⊥)
      all = allowed-none (along (is_mark 1 m)) (along (is_mark 2 m)) (path_cost how w h p) (paths (nearby (wrap_of how) w) w h)

  -- Where no pixel is protected or to be removed, marks change nothing.
  module _ (plain : (r c : ℕ) → (is_mark 1 m r c ≡ 0) × (is_mark 2 m r c ≡ 0)) where
    nothing : (v : ℕ → ℕ → ℕ) (q : List ℕ) → ((r c : ℕ) → v r c ≡ 0) → along v q ≡ 0
    nothing v q z = omega (arith, along-most v 0 q (λ r c. le_of_eq (z r c)))

    pub unmarked-up : marked_up how w h p m ≡ seam_up how w h p
    unmarked-up =
        unmarked (along (is_mark 1 m)) (along (is_mark 2 m)) (path_cost how w h p) (paths (nearby (wrap_of how) w) w h)
        (λ q i. (nothing (is_mark 1 m) q (λ r c. (plain r c).0), nothing (is_mark 2 m) q (λ r c. (plain r c).1)))

    pub unmarked-seam : marked_seam_of how w h p m ≡ seam_of how w h p
    unfolding marked_seam_of seam_of
    unmarked-seam = ap (λ o. reverse (get_or o [])) unmarked-up

    pub unmarked-cost : marked_cost_of how w h p m ≡ cost_of how w h p
    unfolding marked_cost_of cost_of
    unmarked-cost = ap (λ o. path_cost how w h p (get_or o [])) unmarked-up
