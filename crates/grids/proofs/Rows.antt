-- Laws of flat lists and their rows.
use mathlib.Core.Path.{◌≡◌, refl, sym, ap, ap₂, ◌∙◌}
use mathlib.Core.Logic.{⊎_elim}
use mathlib.Core.List.{List, [], ◌∷◌, ◌++◌, append-nil, append_assoc}
use Prim.Native.Nat.{ℕ, zero, suc, ◌+◌, ◌*◌, ◌≤◌, ◌<◌}
use native.Mathlib.Nat.{zero-mul, suc-mul, add_comm, le_of_suc-le-suc, mul-le-mul_right, min-le_left}
use native.Mathlib.Numerals.{add-one}
use native.Mathlib.Omega.{arith}
use lib.ListN.{length, get_or, take, drop, length-append, length-take, length-drop, get_or-eq_default, drop_of_length-le}
use Rattle.std.proofs.lemmas.List.{take-append-le, drop-append-le}
use lib.Seq.{take-add, take_at, drop_at, length-take-le, take-nil, get_or-take, get_or-drop, drop-drop}
use Rattle.grids.specs.Each.{Grid, none, more}
use Rattle.grids.specs.Rows.{rows_of, flat, row_at}
use Rattle.grids.proofs.Orders.{le-or-lt}

-- The r-th of n parts of w ends within n parts, and so does the one after it, where there is one.
pub part_end : (r n w : ℕ) → r < n → r * w + w ≤ n * w
part_end r n w h = rw (← suc-mul r w) (mul-le-mul_right w h)

module _ {A : Type 0} where
  pub length-rows_of : (w n : ℕ) (b : List A) → length (rows_of w n b) ≡ n
  length-rows_of w zero b = refl
  length-rows_of w (suc n) b = ap suc (length-rows_of w n (drop w b))

  pub grid-rows_of : (w n : ℕ) (b : List A) → n * w ≤ length b → Grid w n (rows_of w n b)
  grid-rows_of w zero b h = none
  grid-rows_of w (suc n) b h =
      more (length-take-le w b (omega (arith, suc-mul n w)))
      (grid-rows_of w n (drop w b) (omega (arith, suc-mul n w, length-drop w b)))

  pub flat_append : (p q : List (List A)) → flat (p ++ q) ≡ flat p ++ flat q
  flat_append [] q = refl
  flat_append (x ∷ p) q = ap (x ++◌) (flat_append p q) ∙ sym (append_assoc x (flat p) (flat q))

  pub flat_snoc : (p : List (List A)) (x : List A) → flat (p ++ (x ∷ [])) ≡ flat p ++ x
  flat_snoc p x = flat_append p (x ∷ []) ∙ ap (flat p ++◌) (append-nil x)

  -- Rows and back.
  pub flat-rows_of : (w n : ℕ) (b : List A) → flat (rows_of w n b) ≡ take (n * w) b
  flat-rows_of w zero b = rw (zero-mul w)
  flat-rows_of w (suc n) b = rw (suc-mul n w, add_comm (n * w) w, take-add w (n * w) b) (ap (take w b ++◌) (flat-rows_of w n (drop w b)))

  -- And the other way round, whatever follows the rows.
  pub rows_of-flat : {w n : ℕ} {p : List (List A)} (rest : List A) → Grid w n p → rows_of w n (flat p ++ rest) ≡ p
  rows_of-flat rest none = refl
  rows_of-flat {w} rest (more {n = n} {x = x} {xs = xs} e r) =
      rw append_assoc
      (ap₂ ◌∷◌ (take_at x (flat xs ++ rest) w e) (ap (rows_of w n) (drop_at x (flat xs ++ rest) w e) ∙ rows_of-flat rest r))

  pub length-flat : {w n : ℕ} {p : List (List A)} → Grid w n p → length (flat p) ≡ n * w
  length-flat {w} none = sym (zero-mul w)
  length-flat {w} (more {n = n} {x = x} {xs = xs} e r) = omega (arith, length-append x (flat xs), length-flat r, suc-mul n w)

  -- Row r stands at r * w.
  pub rows_of_at : (w n : ℕ) (b : List A) (r : ℕ) → r < n → get_or (rows_of w n b) r [] ≡ row_at w r b
  rows_of_at w zero b r h = absurd (omega arith)
  rows_of_at w (suc n) b zero h = rw (zero-mul w)
  rows_of_at w (suc n) b (suc r) h =
      rows_of_at w n (drop w b) r (le_of_suc-le-suc h)
      ∙ ap (take w) (drop-drop (r * w) w b ∙ rw (suc-mul r w, add_comm (r * w) w))

  pub flat_at : {w n : ℕ} {p : List (List A)} → Grid w n p → (r : ℕ) → r < n → row_at w r (flat p) ≡ get_or p r []
  flat_at {w} {n} {p} g r h =
      let e : rows_of w n (flat p) ≡ p = ap (rows_of w n) (sym (append-nil (flat p))) ∙ rows_of-flat [] g in
      sym (rows_of_at w n (flat p) r h) ∙ ap (λ q. get_or q r []) e

  -- One row more at the front of a list that is filled row by row.
  pub row_more_lem : (w r : ℕ) (b d : List A) → take (r * w) b ++ (row_at w r b ++ drop (r * w + w) d) ≡ take (r * w + w) b ++ drop (r * w + w) d
  row_more_lem w r b d = sym (append_assoc (take (r * w) b) (row_at w r b) (drop (r * w + w) d)) ∙ ap (◌++ drop (r * w + w) d) (sym (take-add (r * w) w b))

  -- Past the last row there is nothing.
  pub rows_of-past : (w n : ℕ) (b : List A) (r : ℕ) → n ≤ r → get_or (rows_of w n b) r [] ≡ []
  rows_of-past w n b r h = get_or-eq_default (rows_of w n b) [] (rw (length-rows_of) h)

  -- A list that is just its n rows has nothing at a later row.
  pub row_at-past : (w n : ℕ) (b : List A) (r : ℕ) → length b ≤ n * w → n ≤ r → row_at w r b ≡ []
  row_at-past w n b r l h = rw (drop_of_length-le b {i = r * w} (omega (arith, mul-le-mul_right w h))) (take-nil w)

  -- So at every r the two agree on a list that is just its n rows.
  pub rows_of-row_at : (w n : ℕ) (b : List A) (r : ℕ) → length b ≤ n * w → get_or (rows_of w n b) r [] ≡ row_at w r b
  rows_of-row_at w n b r l =
      ⊎_elim
      (λ (h : n ≤ r). rows_of-past w n b r h ∙ sym (row_at-past w n b r l h))
      (λ (h : r < n). rows_of_at w n b r h)
      (le-or-lt n r)

  pub length-row_at : (w n : ℕ) (b : List A) (r : ℕ) → n * w ≤ length b → r < n → length (row_at w r b) ≡ w
  length-row_at w n b r l h = length-take-le w (drop (r * w) b) (omega (arith, length-drop (r * w) b, part_end r n w h))

  -- Element c of row r is element r * w + c of the list.
  pub row_at_get_d : (w : ℕ) (b : List A) (r c : ℕ) (d : A) → c < w → get_or (row_at w r b) c d ≡ get_or b (r * w + c) d
  row_at_get_d w b r c d h = get_or-take w (drop (r * w) b) c d h ∙ get_or-drop (r * w) b c d

  -- A row more at the front.
  pub row_at-first : (w : ℕ) (x b : List A) → length x ≡ w → row_at w 0 (x ++ b) ≡ x
  row_at-first w x b e = rw (zero-mul w) (take_at x b w e)

  pub row_at-later : (w r : ℕ) (x b : List A) → length x ≡ w → row_at w (r + 1) (x ++ b) ≡ row_at w r b
  row_at-later w r x b e =
      ap (take w)
      (ap (λ n. drop n (x ++ b)) (rw (add-one r, suc-mul r w) (add_comm (r * w) w))
      ∙ sym (drop-drop (r * w) w (x ++ b))
      ∙ ap (drop (r * w)) (drop_at x b w e))

  -- A row less.
  pub row_at-drop : (w r : ℕ) (b : List A) → row_at w r (drop w b) ≡ row_at w (r + 1) b
  row_at-drop w r b = ap (take w) (drop-drop (r * w) w b ∙ ap (λ n. drop n b) (rw (add-one r, suc-mul r w) (add_comm w (r * w))))

  -- What follows the rows doesn't count.
  pub row_at-before : (w r : ℕ) (b d : List A) → r * w + w ≤ length b → row_at w r (b ++ d) ≡ row_at w r b
  row_at-before w r b d h =
      ap (take w) (drop-append-le (r * w) b d (omega arith))
      ∙ take-append-le w (drop (r * w) b) d (omega (arith, length-drop (r * w) b))

  pub row_at-short : (w : ℕ) (b : List A) (r : ℕ) → length (row_at w r b) ≤ w
  row_at-short w b r = rw (length-take) (min-le_left w (length (drop (r * w) b)))
