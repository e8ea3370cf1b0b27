-- Members of runs, of selections and of lists put together from several.
use mathlib.Core.Path.{◌≡◌, refl, sym, ap, ◌∙◌}
use mathlib.Core.Logic.{⊎_elim}
use mathlib.Core.Bool.{Bool, true, false}
use mathlib.Core.List.Memᴰ
use mathlib.Core.List.{List, [], ◌∷◌, ◌++◌, flat_map, Memᴰ}
use Prim.Native.Nat.{ℕ, zero, suc, ◌+◌, ◌≤◌, ◌<◌}
use native.Mathlib.Nat.{eq-or-lt_of_le, add-zero, zero-add, suc-add, add-suc}
use native.Mathlib.Omega.{arith}
use Rattle.seam_theory.specs.Paths.{run, cons_if, select}

-- The numbers of a run are from lo on, below lo + n.
pub of_run : (lo n a : ℕ) → Memᴰ a (run lo n) → (lo ≤ a) × (a < lo + n)
unfolding run
of_run lo zero a m = absurd (Memᴰ.not-nil m)
of_run lo (suc n) a m = ⊎_elim (λ e. omega arith) (λ i. omega (arith, of_run (suc lo) n a i)) (Memᴰ.cases_cons m)

-- All of these are in the run.
pub in_run : (lo n a : ℕ) → lo ≤ a → a < lo + n → Memᴰ a (run lo n)
unfolding run
in_run lo zero a p q = absurd (omega arith)
in_run lo (suc n) a p q = ⊎_elim (λ e. Memᴰ.head (sym e)) (λ h. Memᴰ.tail (in_run (suc lo) n a h (omega arith))) (eq-or-lt_of_le p)

-- A run, in two parts.
pub run-append : (lo m n : ℕ) → run lo (m + n) ≡ run lo m ++ run (lo + m) n
unfolding run
run-append lo zero n = rw (zero-add n, add-zero lo)
run-append lo (suc m) n = rw (suc-add m n) (ap (lo ∷◌) (run-append (suc lo) m n ∙ rw (suc-add lo m, ← add-suc lo m)))

module _ {A B : Type 0} (g : A → List B) where
  -- A member of a flat_map is one of g a for a member a.
  pub of_flat_map : {b : B} (xs : List A) → Memᴰ b (flat_map g xs) → (a : A) × Memᴰ a xs × Memᴰ b (g a)
  unfolding flat_map
  of_flat_map [] m = absurd (Memᴰ.not-nil m)
  of_flat_map {b} (a ∷ xs) m = ⊎_elim (λ i. (a, Memᴰ.head refl, i)) (λ i. later (of_flat_map xs i)) (Memᴰ.append_cases (g a) m)
    where
      later : (c : A) × Memᴰ c xs × Memᴰ b (g c) → (c : A) × Memᴰ c (a ∷ xs) × Memᴰ b (g c)
      later t = (t.0, Memᴰ.tail t.1, t.2)

  -- And each such is a member.
  pub in_flat_map : {b : B} {a : A} {xs : List A} → Memᴰ a xs → Memᴰ b (g a) → Memᴰ b (flat_map g xs)
  unfolding flat_map
  in_flat_map (Memᴰ.head {xs = rest} e) i = Memᴰ.append_left (flat_map g rest) (rw e at i)
  in_flat_map (Memᴰ.tail {x = x} m) i = Memᴰ.append_right (g x) (in_flat_map m i)

module _ {A : Type 0} (t : A → Bool) where
  -- A selection has members that pass the test.
  pub of_select : (xs : List A) (a : A) → Memᴰ a (select t xs) → Memᴰ a xs × (t a ≡ true)
  unfolding select
  of_select [] a m = absurd (Memᴰ.not-nil m)
  of_select (x ∷ xs) a m = go (of_select xs a) (t x) refl m
    where
      later : Memᴰ a xs × (t a ≡ true) → Memᴰ a (x ∷ xs) × (t a ≡ true)
      later r = (Memᴰ.tail r.0, r.1)

      go : (Memᴰ a (select t xs) → Memᴰ a xs × (t a ≡ true))
          → (b : Bool) → t x ≡ b → Memᴰ a (cons_if b x (select t xs)) → Memᴰ a (x ∷ xs) × (t a ≡ true)
      go ih true e m = ⊎_elim (λ q. (Memᴰ.head q, ap t q ∙ e)) (λ i. later (ih i)) (Memᴰ.cases_cons m)
      go ih false e m = later (ih m)

  -- It has all of these.
  pub in_select : (xs : List A) (a : A) → Memᴰ a xs → t a ≡ true → Memᴰ a (select t xs)
  unfolding select
  in_select [] a m e = absurd (Memᴰ.not-nil m)
  in_select (x ∷ xs) a m e = ⊎_elim (λ q. let b : t x ≡ true = cc in rw b (Memᴰ.head q)) (λ i. go (t x) (in_select xs a i e)) (Memᴰ.cases_cons m)
    where
      go : (b : Bool) → Memᴰ a (select t xs) → Memᴰ a (cons_if b x (select t xs))
      go true i = Memᴰ.tail i
      go false i = i

  -- A selection from two lists, one after the other.
  pub select-append : (xs ys : List A) → select t (xs ++ ys) ≡ select t xs ++ select t ys
  unfolding select
  select-append [] ys = refl
  select-append (x ∷ xs) ys = rw (select-append xs ys) (go (t x))
    where
      go : (b : Bool) → cons_if b x (select t xs ++ select t ys) ≡ cons_if b x (select t xs) ++ select t ys
      go true = refl
      go false = refl

  -- Where all pass, all are selected.
  pub select-all : (xs : List A) → ((x : A) → Memᴰ x xs → t x ≡ true) → select t xs ≡ xs
  unfolding select
  select-all [] h = refl
  select-all (x ∷ xs) h = rw (h x (Memᴰ.head refl), select-all xs (λ y i. h y (Memᴰ.tail i)))

  -- Where all fail, none is selected.
  pub select-none : (xs : List A) → ((x : A) → Memᴰ x xs → t x ≡ false) → select t xs ≡ []
  unfolding select
  select-none [] h = refl
  select-none (x ∷ xs) h = rw (h x (Memᴰ.head refl), select-none xs (λ y i. h y (Memᴰ.tail i)))

  -- Where none is selected, all failed.
  pub nil_fails : (xs : List A) → select t xs ≡ [] → (x : A) → Memᴰ x xs → t x ≡ false
  nil_fails xs e x i = go (t x) refl
    where
      go : (b : Bool) → t x ≡ b → t x ≡ false
      go true p = absurd (Memᴰ.not-nil (rw e at (in_select xs x i p)))
      go false p = p
