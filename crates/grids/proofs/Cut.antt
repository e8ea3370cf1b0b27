-- Laws of a seam's elements taken out of the rows of a grid.
use mathlib.Core.Path.{◌≡◌, refl, sym, ap, ap₂, ◌∙◌}
use mathlib.Core.List.{List, [], ◌∷◌, ◌++◌, append_assoc, zip_with}
use Prim.Native.Nat.{ℕ, zero, suc, ◌+◌, ◌-◌, ◌*◌, ◌≤◌, ◌<◌}
use native.Mathlib.Nat.{zero-mul, suc-mul, zero-add, suc_inj, le_of_suc-le-suc}
use native.Mathlib.Omega.{arith}
use lib.ListN.{length, get_or, take, drop}
use lib.Seq.{ext_get_or, take-nil, drop-nil, drop_at, take-append-add, drop-append-add}
use Rattle.grids.specs.Each.{Each, Grid, none, more}
use Rattle.grids.specs.Table.{table}
use Rattle.grids.specs.Rows.{flat}
use Rattle.grids.specs.Cut.{remove_at, cut}
use Rattle.grids.proofs.Tables.{length-table, table_at}

module _ {A : Type 0} where
  pub length-remove_at : (i : ℕ) (xs : List A) → i < length xs → suc (length (remove_at i xs)) ≡ length xs
  unfolding remove_at
  length-remove_at i [] h = absurd (omega arith)
  length-remove_at zero (x ∷ xs) h = refl
  length-remove_at (suc i) (x ∷ xs) h = ap suc (length-remove_at i xs (le_of_suc-le-suc h))

  pub remove_at-past : (i : ℕ) (xs : List A) → length xs ≤ i → remove_at i xs ≡ xs
  unfolding remove_at
  remove_at-past i [] h = refl
  remove_at-past zero (x ∷ xs) h = absurd (omega arith)
  remove_at-past (suc i) (x ∷ xs) h = ap (x ∷◌) (remove_at-past i xs (le_of_suc-le-suc h))

  -- What stands before the element, and what stands after it.
  pub remove_at-parts : (i : ℕ) (xs : List A) → remove_at i xs ≡ take i xs ++ drop (suc i) xs
  unfolding remove_at
  remove_at-parts zero [] = refl
  remove_at-parts (suc i) [] = refl
  remove_at-parts zero (x ∷ xs) = refl
  remove_at-parts (suc i) (x ∷ xs) = ap (x ∷◌) (remove_at-parts i xs)

  -- Elements before it keep their place, those after it move down by one.
  pub remove_at-below : (i : ℕ) (xs : List A) (j : ℕ) (d : A) → j < i → get_or (remove_at i xs) j d ≡ get_or xs j d
  unfolding remove_at
  remove_at-below i [] j d h = refl
  remove_at-below zero (x ∷ xs) j d h = absurd (omega arith)
  remove_at-below (suc i) (x ∷ xs) zero d h = refl
  remove_at-below (suc i) (x ∷ xs) (suc j) d h = remove_at-below i xs j d (le_of_suc-le-suc h)

  pub remove_at-from : (i : ℕ) (xs : List A) (j : ℕ) (d : A) → i ≤ j → get_or (remove_at i xs) j d ≡ get_or xs (suc j) d
  unfolding remove_at
  remove_at-from i [] j d h = refl
  remove_at-from zero (x ∷ xs) j d h = refl
  remove_at-from (suc i) (x ∷ xs) zero d h = absurd (omega arith)
  remove_at-from (suc i) (x ∷ xs) (suc j) d h = remove_at-from i xs j d (le_of_suc-le-suc h)

  -- A row of one element less, with the elements of the row.
  pub remove_at-each : {P : A → Type 0} {n : ℕ} {xs : List A} (i : ℕ) → i < suc n → Each P (suc n) xs → Each P n (remove_at i xs)
  unfolding remove_at
  remove_at-each zero h (more p e) = e
  remove_at-each {n = zero} (suc i) h (more p e) = absurd (omega arith)
  remove_at-each {n = suc n} (suc i) h (more p e) = more p (remove_at-each {n = n} i (le_of_suc-le-suc h) e)

  -- The grid left is again a grid, one column narrower, with the elements of the grid.
  pub cut-each : {P : A → Type 0} {w n : ℕ} {s : List ℕ} {p : List (List A)} → Each (λ c. c < suc w) n s → Each (Each P (suc w)) n p → Each (Each P w) n (cut s p)
  unfolding cut zip_with
  cut-each none none = none
  cut-each (more {x = c} h s) (more x g) = more (remove_at-each c h x) (cut-each s g)

  -- The same of a width that isn't written as one more.
  pub cut_narrower : {P : A → Type 0} (w : ℕ) {n : ℕ} {s : List ℕ} {p : List (List A)} → 1 < w → Each (λ c. c < w) n s → Each (Each P w) n p → Each (Each P (w - 1)) n (cut s p)
  cut_narrower zero h s p = absurd (omega arith)
  cut_narrower (suc w) h s p = let e : suc w - 1 ≡ w = omega arith in rw e (cut-each s p)

  -- Row r of the grid left.
  pub cut_at : (s : List ℕ) (p : List (List A)) (r : ℕ) → length s ≡ length p → get_or (cut s p) r [] ≡ remove_at (get_or s r 0) (get_or p r [])
  unfolding cut zip_with remove_at
  cut_at [] [] r e = refl
  cut_at [] (x ∷ p) r e = absurd (omega arith)
  cut_at (c ∷ s) [] r e = absurd (omega arith)
  cut_at (c ∷ s) (x ∷ p) zero e = refl
  cut_at (c ∷ s) (x ∷ p) (suc r) e = cut_at s p r (suc_inj e)

  pub length_cut : (s : List ℕ) (p : List (List A)) → length s ≡ length p → length (cut s p) ≡ length p
  unfolding cut zip_with
  length_cut [] [] e = refl
  length_cut [] (x ∷ p) e = absurd (omega arith)
  length_cut (c ∷ s) [] e = absurd (omega arith)
  length_cut (c ∷ s) (x ∷ p) e = ap suc (length_cut s p (suc_inj e))

  -- The grid left as the table of its rows.
  pub cut-table : (s : List ℕ) (p : List (List A)) (n : ℕ) → length s ≡ n → length p ≡ n → cut s p ≡ table (λ r. remove_at (get_or s r 0) (get_or p r [])) n
  cut-table s p n e l =
      let f : ℕ → List A = λ r. remove_at (get_or s r 0) (get_or p r []) in
      let long : length (cut s p) ≡ n = length_cut s p (e ∙ sym l) ∙ l in
      ext_get_or [] (cut s p) (table f n) (long ∙ sym (length-table f n))
      (λ r h. cut_at s p r (e ∙ sym l) ∙ sym (table_at f n r [] (omega arith)))

  -- In a flat list the row's c-th group of ch elements is taken out.
  pub flat-remove_at : {ch w : ℕ} {x : List (List A)} (c : ℕ) → Grid ch w x → flat (remove_at c x) ≡ take (c * ch) (flat x) ++ drop (c * ch + ch) (flat x)
  unfolding remove_at
  flat-remove_at {ch} c none = rw (take-nil, drop-nil)
  flat-remove_at {ch} zero (more {x = x} {xs = xs} e g) = rw (zero-mul ch, zero-add ch) (sym (drop_at x (flat xs) ch e))
  flat-remove_at {ch} (suc c) (more {x = x} {xs = xs} e g) =
      ap (x ++◌) (flat-remove_at c g)
      ∙ sym (append_assoc x (take (c * ch) (flat xs)) (drop (c * ch + ch) (flat xs)))
      ∙ sym (ap₂ ◌++◌ (front) (back))
    where
      front : take (suc c * ch) (x ++ flat xs) ≡ x ++ take (c * ch) (flat xs)
      front =
          let n : suc c * ch ≡ length x + c * ch = omega (arith, suc-mul c ch) in
          rw n (take-append-add x (flat xs) (c * ch))

      back : drop (suc c * ch + ch) (x ++ flat xs) ≡ drop (c * ch + ch) (flat xs)
      back =
          let n : suc c * ch + ch ≡ length x + (c * ch + ch) = omega (arith, suc-mul c ch) in
          rw n (drop-append-add x (flat xs) (c * ch + ch))
