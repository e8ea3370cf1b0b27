-- Laws of tables, and of a slice that a loop fills from the front.
use mathlib.Core.Path.{◌≡◌, refl, sym, ap, ap₂, ◌∙◌}
use mathlib.Core.Logic.{⊎_elim}
use mathlib.Core.List.{List, [], ◌∷◌, ◌++◌, append-nil}
use Prim.Native.Nat.{ℕ, zero, suc, ◌+◌, ◌≤◌, ◌<◌}
use native.Mathlib.Nat.{eq-or-lt_of_le}
use native.Mathlib.Numerals.{add-one}
use native.Mathlib.Omega.{arith}
use lib.ListN.{length, take, drop, get_or, set, length-append, length-drop, length-set, get_or-append, get_or-eq_default}
use lib.Seq.{drop-cons, drop-length, set_at, append_snoc, get_or_at, take-suc, get_or-drop, ext_get_or}
use Rattle.grids.specs.Each.{Each, none}
use Rattle.grids.specs.Rows.{rows_of, row_at}
use Rattle.grids.specs.Table.{table}
use Rattle.grids.proofs.Rows.{length-rows_of, rows_of_at}
use Rattle.grids.proofs.Shapes.{each_snoc}

module _ {A : Type 0} where
  pub length-table : (f : ℕ → A) (n : ℕ) → length (table f n) ≡ n
  length-table f zero = refl
  length-table f (suc n) = length-append (table f n) (f n ∷ []) ∙ add-one _ ∙ ap suc (length-table f n)

  -- Element i of a table.
  pub table_at : (f : ℕ → A) (n i : ℕ) (d : A) → i < n → get_or (table f n) i d ≡ f i
  table_at f zero i d h = absurd (omega arith)
  table_at f (suc n) i d h =
      let le : i ≤ n = omega arith in
      ⊎_elim
      (λ (e : i ≡ n). get_or_at (table f n) (f n) [] d i (length-table f n ∙ sym e) ∙ ap f (sym e))
      (λ (l : i < n). get_or-append (table f n) (f n ∷ []) d i (rw (length-table) l) ∙ table_at f n i d l)
      (eq-or-lt_of_le le)

  -- Past its end a table has nothing.
  pub table-past : (f : ℕ → A) (n i : ℕ) (d : A) → n ≤ i → get_or (table f n) i d ≡ d
  table-past f n i d h = get_or-eq_default (table f n) d (rw (length-table) h)

  -- Functions with the same values have the same table.
  pub table_same : (f g : ℕ → A) (n : ℕ) → ((i : ℕ) → i < n → f i ≡ g i) → table f n ≡ table g n
  table_same f g zero h = refl
  table_same f g (suc n) h = ap₂ (λ xs x. xs ++ (x ∷ [])) (table_same f g n (λ i l. h i (omega arith))) (h n (omega arith))

  -- One turn of a loop that stores f c at c: one value more at the front of d.
  pub table_more : (f : ℕ → A) (d : List A) (n : ℕ) (z : A) → n < length d → set (table f n ++ drop n d) n (f n) ≡ table f (n + 1) ++ drop (n + 1) d
  table_more f d n z h =
      rw (add-one) (ap (λ (r : List A). set (table f n ++ r) n (f n)) (drop-cons d n z h)
      ∙ set_at (table f n) (get_or d n z) (drop (suc n) d) (f n) n (length-table f n)
      ∙ sym (append_snoc (table f n) (f n) (drop (suc n) d)))

  -- A list is the table of its elements.
  pub table-all : (xs : List A) (d : A) → table (λ i. get_or xs i d) (length xs) ≡ xs
  table-all xs d = ext_get_or d (table (λ i. get_or xs i d) (length xs)) xs (length-table _ _) (λ i h. table_at (λ i. get_or xs i d) (length xs) i d (rw (length-table) at h))

  -- The end of a loop that has filled the whole space.
  pub table-end : (f : ℕ → A) (d out : List A) (n : ℕ) → out ≡ table f n ++ drop n d → n ≡ length d → out ≡ table f (length d)
  table-end f d out n e l = e ∙ rw (l, drop-length d) (append-nil (table f (length d)))

  -- A table by its first value.
  pub table-cons : (f : ℕ → A) (n : ℕ) → table f (suc n) ≡ f 0 ∷ table (λ i. f (suc i)) n
  table-cons f zero = refl
  table-cons f (suc n) = ap (◌++ (f (suc n) ∷ [])) (table-cons f n)

  -- n elements of a list from place i on.
  pub table_part : (xs : List A) (i n : ℕ) (d : A) → i + n ≤ length xs → take n (drop i xs) ≡ table (λ k. get_or xs (i + k) d) n
  table_part xs i zero d h = refl
  table_part xs i (suc n) d h =
      take-suc (drop i xs) n d (omega (arith, length-drop i xs))
      ∙ ap₂ (λ ys y. ys ++ (y ∷ [])) (table_part xs i n d (omega arith)) (get_or-drop i xs n d)

  -- A property of every value is a property of every element.
  pub each-table : {P : A → Type 0} (f : ℕ → A) (n : ℕ) → ((i : ℕ) → i < n → P (f i)) → Each P n (table f n)
  each-table f zero h = none
  each-table f (suc n) h = each_snoc (each-table f n (λ i l. h i (omega arith))) (h n (omega arith))

-- Rows, as a table.
pub rows_table : {A : Type 0} (w n : ℕ) (b : List A) → rows_of w n b ≡ table (λ r. row_at w r b) n
rows_table w n b =
    sym (table-all (rows_of w n b) [])
    ∙ ap (table (λ r. get_or (rows_of w n b) r [])) (length-rows_of w n b)
    ∙ table_same (λ r. get_or (rows_of w n b) r []) (λ r. row_at w r b) n (λ r l. rows_of_at w n b r l)

-- What a loop holds that stores f n at n of a slice that was d, before it stores the n-th of `end` values.
pub record Stored {A : Type 0} (f : ℕ → A) (d : List A) (end n : ℕ) (out : List A) : Type 0 where
  pub within : n ≤ end
  pub all : end ≡ length d
  pub is : out ≡ table f n ++ drop n d
  pub long : length out ≡ length d

module _ {A : Type 0} (f : ℕ → A) (d : List A) (end : ℕ) where
  pub stored_start : end ≡ length d → Stored f d end 0 d
  stored_start e = record { within = omega arith; all = e; is = refl; long = refl }

  -- One turn: v is stored at n.
  pub stored_turn : (n : ℕ) (out : List A) (v z : A) → n < end → v ≡ f n → Stored f d end n out → Stored f d end (n + 1) (set out n v)
  stored_turn n out v z h g o = record {
    within = omega arith;
    all = o.all;
    is = ap₂ (λ x y. set x n y) o.is g ∙ table_more f d n z (omega (arith, o.all));
    long = length-set out n v ∙ o.long;
  }

  pub stored_end : (n : ℕ) (out : List A) → end ≤ n → Stored f d end n out → out ≡ table f (length d)
  stored_end n out h o = table-end f d out n o.is (omega (arith, o.within, o.all))

-- The same where the values are the elements of a list as long as the slice: a copy.
module _ {A : Type 0} (from d : List A) (z : A) where
  abbrev pub Copied : ℕ → ℕ → List A → Type 0
  Copied end n out = Stored (λ i. get_or from i z) d end n out

  pub copied_start : Copied (length d) 0 d
  copied_start = stored_start (λ i. get_or from i z) d (length d) refl

  pub copied_turn : (end n : ℕ) (out : List A) → n < end → Copied end n out → Copied end (n + 1) (set out n (get_or from n z))
  copied_turn end n out h o = stored_turn (λ i. get_or from i z) d end n out (get_or from n z) z h refl o

  pub copied-end : (end n : ℕ) (out : List A) → length d ≡ length from → end ≤ n → Copied end n out → out ≡ from
  copied-end end n out e h o = stored_end (λ i. get_or from i z) d end n out h o ∙ ap (table (λ i. get_or from i z)) e ∙ table-all from z
