-- A row at each width: how long it is, and what is left out from one width to another.
use mathlib.Core.Path.{◌≡◌, refl, ap, subst, ◌∙◌}
use mathlib.Core.Logic.{◌⊎◌, inl, inr, ⊎_elim}
use mathlib.Core.Bool.{Bool, true, false, not}
use mathlib.Core.List.Sublistᴰ
use mathlib.Core.List.{List, [], ◌∷◌, Sublistᴰ}
use Prim.Native.Nat.{ℕ, suc, ◌+◌, ◌-◌, ◌≤◌, ◌<◌}
use native.Mathlib.Omega.{arith}
use borrow.Author.Tests.{le-leb, lt-leb}
use lib.ListN.{length}
use Rattle.grids.proofs.Orders.{le-or-lt}
use Rattle.seam_theory.specs.Paths.{cons_if}
use Rattle.map_theory.specs.Widths.{keep_row, doubled, grow_last, grow_from, grow_row, row_at_width, LeftOut}
use Rattle.map_theory.specs.Judged.{tick, remains, Numbering, doubled_in}
use Rattle.map_theory.proofs.Numbers.{stays-remains, remains_earlier, doubled-not, doubled-more}
use Rattle.map_theory.proofs.Rows.{keep_all}
use Rattle.map_theory.proofs.Doubled.{doubled_numbering}

module _ {A : Type 0} where
  cons_if-sub : (a b : Bool) (x : A) (xs ys : List A) → (a ≡ true → b ≡ true) → Sublistᴰ xs ys → Sublistᴰ (cons_if a x xs) (cons_if b x ys)
  cons_if-sub true true x xs ys h s = Sublistᴰ.cons-cons refl s
  cons_if-sub true false x xs ys h s =
      let z : ◌≡◌ {A = Bool} false true = h refl in
      let o : ◌≡◌ {A = ℕ} 0 1 = cc in
      absurd (omega arith)
  cons_if-sub false true x xs ys h s = Sublistᴰ.cons s
  cons_if-sub false false x xs ys h s = s

  cons_if-more : (b : Bool) (x : A) (xs ys : List A) → Sublistᴰ xs ys → Sublistᴰ xs (cons_if b x ys)
  cons_if-more true x xs ys s = Sublistᴰ.cons s
  cons_if-more false x xs ys s = s

  -- Before a later seam less is left.
  keep_sub : (t u : ℕ) (xs : List A) (ys : List ℕ) → t ≤ u → Sublistᴰ (keep_row (remains u) xs ys) (keep_row (remains t) xs ys)
  keep_sub t u [] ys h = Sublistᴰ.slnil
  keep_sub t u (x ∷ xs) [] h = Sublistᴰ.slnil
  keep_sub t u (x ∷ xs) (v ∷ ys) h =
      cons_if-sub (remains u v) (remains t v) x (keep_row (remains u) xs ys) (keep_row (remains t) xs ys) (remains_earlier t u v h) (keep_sub t u xs ys h)

  pub length_keep : (t : ℕ) (xs : List A) (ys : List ℕ) → length xs ≡ length ys → length (keep_row (remains (suc t)) xs ys) + doubled_in t ys ≡ length xs
  length_keep t [] [] e = refl
  length_keep t [] (v ∷ ys) e = absurd (omega arith)
  length_keep t (x ∷ xs) [] e = absurd (omega arith)
  length_keep t (x ∷ xs) (v ∷ ys) e = rw (doubled-not t v) (go (remains (suc t) v) (length_keep t xs ys (omega arith)))
    where
      go : (b : Bool) → length (keep_row (remains (suc t)) xs ys) + doubled_in t ys ≡ length xs
          → length (cons_if b x (keep_row (remains (suc t)) xs ys)) + tick (not b) (doubled_in t ys) ≡ suc (length xs)
      go true ih = omega arith
      go false ih = omega arith

-- The pixel of the last column, with its new pixel where it has one.
module _ {A : Type 0} (mean : A → A → A) where
  last-sub : (wrap new : Bool) (first l x : A) → Sublistᴰ (x ∷ []) (grow_last mean wrap new first l x)
  last-sub false new first l x = cons_if-more new (mean x l) (x ∷ []) (x ∷ []) (Sublistᴰ.refl (x ∷ []))
  last-sub true new first l x = Sublistᴰ.cons-cons refl (cons_if-more new (mean x first) [] [] Sublistᴰ.slnil)

  last_more : (wrap a b : Bool) (first l x : A) → (a ≡ true → b ≡ true) → Sublistᴰ (grow_last mean wrap a first l x) (grow_last mean wrap b first l x)
  last_more false a b first l x h = cons_if-sub a b (mean x l) (x ∷ []) (x ∷ []) h (Sublistᴰ.refl (x ∷ []))
  last_more true a b first l x h = Sublistᴰ.cons-cons refl (cons_if-sub a b (mean x first) [] [] h Sublistᴰ.slnil)

  length_last : (wrap new : Bool) (first l x : A) → length (grow_last mean wrap new first l x) ≡ 1 + tick new 0
  length_last false true first l x = refl
  length_last false false first l x = refl
  length_last true true first l x = refl
  length_last true false first l x = refl

-- Whether or not the last column is joined to the first.
module _ {A : Type 0} (mean : A → A → A) (wrap : Bool) where
  -- A row is in each wider one, and a wide one in each wider one.
  from-sub : (u : ℕ) (first l : A) (xs : List A) (ys : List ℕ) → Sublistᴰ xs (grow_from mean wrap u first l xs ys)
  from-sub u first l [] ys = Sublistᴰ.slnil
  from-sub u first l (x ∷ xs) [] = Sublistᴰ.refl (x ∷ xs)
  from-sub u first l (x ∷ []) (v ∷ ys) = last-sub mean wrap (doubled u v) first l x
  from-sub u first l (x ∷ r ∷ xs) (v ∷ ys) =
      Sublistᴰ.cons-cons refl (cons_if-more (doubled u v) (mean x r) (r ∷ xs) (grow_from mean wrap u first x (r ∷ xs) ys) (from-sub u first x (r ∷ xs) ys))

  from_more : (t u : ℕ) (first l : A) (xs : List A) (ys : List ℕ) → t ≤ u → Sublistᴰ (grow_from mean wrap t first l xs ys) (grow_from mean wrap u first l xs ys)
  from_more t u first l [] ys h = Sublistᴰ.slnil
  from_more t u first l (x ∷ xs) [] h = Sublistᴰ.refl (x ∷ xs)
  from_more t u first l (x ∷ []) (v ∷ ys) h = last_more mean wrap (doubled t v) (doubled u v) first l x (doubled-more t u v h)
  from_more t u first l (x ∷ r ∷ xs) (v ∷ ys) h =
      Sublistᴰ.cons-cons refl
      (cons_if-sub (doubled t v) (doubled u v) (mean x r) (grow_from mean wrap t first x (r ∷ xs) ys) (grow_from mean wrap u first x (r ∷ xs) ys) (doubled-more t u v h) (from_more t u first x (r ∷ xs) ys h))

  length_from : (u : ℕ) (first l : A) (xs : List A) (ys : List ℕ) → length xs ≡ length ys → length (grow_from mean wrap u first l xs ys) ≡ length xs + doubled_in u ys
  length_from u first l [] [] e = refl
  length_from u first l [] (v ∷ ys) e = absurd (omega arith)
  length_from u first l (x ∷ xs) [] e = absurd (omega arith)
  length_from u first l (x ∷ []) (v ∷ []) e = length_last mean wrap (doubled u v) first l x
  length_from u first l (x ∷ []) (v ∷ w ∷ ys) e = absurd (omega arith)
  length_from u first l (x ∷ r ∷ xs) (v ∷ ys) e = go (doubled u v) (length_from u first x (r ∷ xs) ys (omega arith))
    where
      go : (b : Bool) → length (grow_from mean wrap u first x (r ∷ xs) ys) ≡ length (r ∷ xs) + doubled_in u ys
          → suc (length (cons_if b (mean x r) (grow_from mean wrap u first x (r ∷ xs) ys))) ≡ suc (length (r ∷ xs)) + tick b (doubled_in u ys)
      go true ih = omega arith
      go false ih = omega arith

  grow_sub : (u : ℕ) (xs : List A) (ys : List ℕ) → Sublistᴰ xs (grow_row mean wrap u xs ys)
  grow_sub u [] ys = Sublistᴰ.slnil
  grow_sub u (x ∷ xs) ys = from-sub u x x (x ∷ xs) ys

  grow_more : (t u : ℕ) (xs : List A) (ys : List ℕ) → t ≤ u → Sublistᴰ (grow_row mean wrap t xs ys) (grow_row mean wrap u xs ys)
  grow_more t u [] ys h = Sublistᴰ.slnil
  grow_more t u (x ∷ xs) ys h = from_more t u x x (x ∷ xs) ys h

  pub length_grow : (u : ℕ) (xs : List A) (ys : List ℕ) → length xs ≡ length ys → length (grow_row mean wrap u xs ys) ≡ length xs + doubled_in u ys
  length_grow u [] [] e = refl
  length_grow u [] (v ∷ ys) e = absurd (omega arith)
  length_grow u (x ∷ xs) ys e = length_from u x x (x ∷ xs) ys e

  -- At most as wide as the row, and wider.
  pub at_narrow : (m v : ℕ) (xs : List A) (ys : List ℕ) → v ≤ m → row_at_width mean wrap m v xs ys ≡ keep_row (remains (suc (m - v))) xs ys
  unfolding row_at_width
  at_narrow m v xs ys h = rw (le-leb v m h) (ap (λ f. keep_row f xs ys) (stays-remains (m - v)))

  pub at_wide : (m v : ℕ) (xs : List A) (ys : List ℕ) → m < v → row_at_width mean wrap m v xs ys ≡ grow_row mean wrap (v - m) xs ys
  unfolding row_at_width
  at_wide m v xs ys h = rw (lt-leb v m h)

  -- A row of a picture and its row of the map.
  module _ (k m : ℕ) (xs : List A) (ys : List ℕ) (full : length xs ≡ m) (fits : length ys ≡ m) where
    -- At the original width it is the row.
    pub at-original : row_at_width mean wrap m m xs ys ≡ xs
    at-original =
        let z : m - m ≡ 0 = omega arith in
        at_narrow m m xs ys (omega arith) ∙ rw z (keep_all xs ys (omega arith))

    at-sub : (v z : ℕ) → v ≤ z → Sublistᴰ (row_at_width mean wrap m v xs ys) (row_at_width mean wrap m z xs ys)
    at-sub v z h = go (le-or-lt v m) (le-or-lt z m)
      where
        go : (v ≤ m) ⊎ (m < v) → (z ≤ m) ⊎ (m < z) → Sublistᴰ (row_at_width mean wrap m v xs ys) (row_at_width mean wrap m z xs ys)
        go (inl p) (inl q) = rw (at_narrow m v xs ys p, at_narrow m z xs ys q) (keep_sub (suc (m - z)) (suc (m - v)) xs ys (omega arith))
        go (inl p) (inr q) =
            rw (at_narrow m v xs ys p, at_wide m z xs ys q)
            (Sublistᴰ.trans
            (subst (Sublistᴰ (keep_row (remains (suc (m - v))) xs ys)) (keep_all xs ys (omega arith)) (keep_sub 1 (suc (m - v)) xs ys (omega arith)))
            (grow_sub (z - m) xs ys))
        go (inr p) (inl q) = absurd (omega arith)
        go (inr p) (inr q) = rw (at_wide m v xs ys p, at_wide m z xs ys q) (grow_more (v - m) (z - m) xs ys (omega arith))

    module _ (n : Numbering k ys) where
      -- A row at width v has v pixels.
      pub length_at : (v : ℕ) → m ≤ v + k → v ≤ m + k → length (row_at_width mean wrap m v xs ys) ≡ v
      length_at v l h = ⊎_elim narrow wide (le-or-lt v m)
        where
          narrow : v ≤ m → length (row_at_width mean wrap m v xs ys) ≡ v
          narrow q = rw (at_narrow m v xs ys q) (omega (arith, length_keep (m - v) xs ys (omega arith), doubled_numbering k (m - v) ys n (omega arith)))

          wide : m < v → length (row_at_width mean wrap m v xs ys) ≡ v
          wide q = rw (at_wide m v xs ys q) (omega (arith, length_grow (v - m) xs ys (omega arith), doubled_numbering k (v - m) ys n (omega arith)))

      -- At a smaller width it is the row at the greater one with as many pixels left out as the widths differ by.
      pub row-left-out : (v z : ℕ) → m ≤ v + k → v ≤ z → z ≤ m + k → LeftOut (z - v) (row_at_width mean wrap m v xs ys) (row_at_width mean wrap m z xs ys)
      row-left-out v z l h u = record { order = at-sub v z h; size = omega (arith, length_at v l (omega arith), length_at z (omega arith) u) }
