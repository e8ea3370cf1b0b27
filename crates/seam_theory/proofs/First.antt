-- Where the first best element stands: those before it are worse, and those after it no better.
use mathlib.Core.Path.{◌≡◌, refl, sym, ap, subst, ◌∙◌}
use mathlib.Core.Logic.{⊎_elim}
use mathlib.Core.Bool.{Bool, true, false}
use mathlib.Core.Option.{Option, none, some, none-ne-some}
use mathlib.Core.List.Memᴰ
use mathlib.Core.List.{List, [], ◌∷◌, ◌++◌, Memᴰ}
use Rattle.seam_theory.specs.Best.{better, first_best}
use Rattle.seam_theory.specs.Paths.{cons_if, select}
use Rattle.seam_theory.proofs.Best.{better-left, better_right, better-none, best_none, best_mem}
use Rattle.seam_theory.proofs.Ordered.{Order, le_self}
use Rattle.seam_theory.proofs.Members.{of_select, nil_fails}

module _ {A : Type 0} (le : A → A → Bool) where
  -- m stands in xs after worse ones and before no better ones.
  pub record First (xs : List A) (m : A) : Type 0 where
    pub pre : List A
    pub post : List A
    pub split : xs ≡ pre ++ m ∷ post
    pub before : (x : A) → Memᴰ x pre → le x m ≡ false
    pub after : (x : A) → Memᴰ x post → le m x ≡ true

  -- It is an element.
  pub first-mem : {xs : List A} {m : A} → First xs m → Memᴰ m xs
  first-mem r = rw r.split (Memᴰ.append_right r.pre (Memᴰ.head refl))

  head_best : (m : A) (post : List A) → ((x : A) → Memᴰ x post → le m x ≡ true) → first_best le (m ∷ post) ≡ some m
  unfolding first_best
  head_best m post after = go (first_best le post) refl
    where
      go : (o : Option A) → first_best le post ≡ o → better le (some m) o ≡ some m
      go none e = better-none le (some m)
      go (some y) e = better-left le m y (after y (best_mem le post y e))

  later_best : (pre : List A) (m : A) (post : List A)
      → ((x : A) → Memᴰ x pre → le x m ≡ false) → ((x : A) → Memᴰ x post → le m x ≡ true) → first_best le (pre ++ m ∷ post) ≡ some m
  unfolding first_best
  later_best [] m post before after = head_best m post after
  later_best (x ∷ pre) m post before after =
      rw (later_best pre m post (λ y i. before y (Memᴰ.tail i)) after) (better_right le x m (before x (Memᴰ.head refl)))

  -- The element of that place is the first best.
  pub first_best_lem : (xs : List A) (m : A) → First xs m → first_best le xs ≡ some m
  first_best_lem xs m r = rw r.split (later_best r.pre m r.post r.before r.after)

  module _ (order : Order le) where
    -- It is at least as good as every element.
    pub first-le : {xs : List A} {m : A} → First xs m → (x : A) → Memᴰ x xs → le m x ≡ true
    first-le {m} r x i =
        ⊎_elim
        (λ j. order.total x m (r.before x j))
        (λ j. ⊎_elim (λ e. rw e (le_self le order m)) (r.after x) (Memᴰ.cases_cons j))
        (Memᴰ.append_cases r.pre (rw r.split at i))

    -- The first best element stands in that place.
    pub best-first : (xs : List A) (m : A) → first_best le xs ≡ some m → First xs m
    unfolding first_best
    best-first [] m e = absurd (none-ne-some m e)
    best-first (x ∷ xs) m e = go (best-first xs) (first_best le xs) refl e
      where
        kept : ((z : A) → Memᴰ z xs → le x z ≡ true) → First (x ∷ xs) x
        kept l = record { pre = []; post = xs; split = refl; before = λ z i. absurd (Memᴰ.not-nil i); after = l }

        passed : (y : A) → First xs y → le x y ≡ false → First (x ∷ xs) y
        passed y r l = record {
          pre = x ∷ r.pre;
          post = r.post;
          split = ap (x ∷◌) r.split;
          before = λ z i. ⊎_elim (λ e. rw e l) (r.before z) (Memᴰ.cases_cons i);
          after = r.after;
        }

        one : (y : A) → First xs y → (t : Bool) → le x y ≡ t → better le (some x) (some y) ≡ some m → First (x ∷ xs) m
        one y r true l q = subst (First (x ∷ xs)) (cc (better-left le x y l)) (kept (λ z i. order.trans x y z l (first-le r z i)))
        one y r false l q = subst (First (x ∷ xs)) (cc (better_right le x y l)) (passed y r l)

        go : ((y : A) → first_best le xs ≡ some y → First xs y) → (o : Option A) → first_best le xs ≡ o → better le (some x) o ≡ some m → First (x ∷ xs) m
        go ih none r q = subst (First (x ∷ xs)) (cc (better-none le (some x))) (kept (λ z i. absurd (Memᴰ.not-nil (rw ((best_none le xs).0 r) at i))))
        go ih (some y) r q = one y (ih y r) (le x y) refl q

-- Where every element that fails a test is worse than every one that passes, the first best of those that pass is the first
-- best of all.
pub best_select : {A : Type 0} (le : A → A → Bool) (t : A → Bool) (xs : List A)
    → ((x y : A) → Memᴰ x xs → Memᴰ y xs → t x ≡ true → t y ≡ false → (le x y ≡ true) × (le y x ≡ false))
    → (s : A) → first_best le (select t xs) ≡ some s → first_best le xs ≡ some s
unfolding first_best select
best_select le t [] h s e = e
best_select {A} le t (x ∷ xs) h s e = go (best_select le t xs (λ y z i j. h y z (Memᴰ.tail i) (Memᴰ.tail j))) (t x) refl e
  where
    first : (o : Option A) → first_best le xs ≡ o → t x ≡ true → select t xs ≡ [] → better le (some x) o ≡ some x
    first none r p n = better-none le (some x)
    first (some y) r p n =
        let i = best_mem le xs y r in
        better-left le x y (h x y (Memᴰ.head refl) (Memᴰ.tail i) p (nil_fails t xs n y i)).0

    pass : ((y : A) → first_best le (select t xs) ≡ some y → first_best le xs ≡ some y) → t x ≡ true
        → (o : Option A) → first_best le (select t xs) ≡ o → better le (some x) o ≡ some s → better le (some x) (first_best le xs) ≡ some s
    pass ih p none r q = first (first_best le xs) refl p ((best_none le (select t xs)).0 r) ∙ sym (better-none le (some x)) ∙ q
    pass ih p (some y) r q = rw (ih y r) q

    go : ((y : A) → first_best le (select t xs) ≡ some y → first_best le xs ≡ some y)
        → (b : Bool) → t x ≡ b → first_best le (cons_if b x (select t xs)) ≡ some s → better le (some x) (first_best le xs) ≡ some s
    go ih true p q = pass ih p (first_best le (select t xs)) refl q
    go ih false p q =
        let m = of_select t xs s (best_mem le (select t xs) s q) in
        rw (ih s q) (better_right le x s (h s x (Memᴰ.tail m.0) (Memᴰ.head refl) m.1 p).1)
