-- A loop over the rows of one list: what was done and what is to come make the whole.
use mathlib.Core.Path.{◌≡◌, refl, sym, ap, ◌∙◌}
use mathlib.Core.List.{List, [], ◌∷◌, ◌++◌, append-nil, append_assoc, zip_with}
use Prim.Native.Nat.{ℕ, suc, ◌+◌, ◌-◌, ◌*◌, ◌≤◌, ◌<◌}
use native.Mathlib.Nat.{suc-mul}
use native.Mathlib.Numerals.{add-one}
use native.Mathlib.Omega.{arith}
use lib.ListN.{length, get_or, take, drop, length-append}
use lib.Seq.{drop-cons, take_all, take_at, drop_at, length-take-le}
use borrow.Rule.Slice.PartMut.{put_mid, mid_of}
use Rattle.grids.specs.Rows.{rows_of, flat}

module _ {A B : Type 0} (f : B → List A → List A) (d : B) (s : List B) (work whole new : List A) (a w i r : ℕ)
    (inside : r < length s) (fits : a + w ≤ length work) (is : new ≡ f (get_or s r d) (mid_of a w work)) (size : length new ≡ w) where
  row_turn : take a work ++ flat (zip_with f (drop r s) (rows_of w (suc i) (drop a work))) ≡ whole
      → take (a + w) (put_mid a w work new) ++ flat (zip_with f (drop (r + 1) s) (rows_of w i (drop (a + w) (put_mid a w work new)))) ≡ whole
  unfolding zip_with
  row_turn e = rw (front, back, append_assoc, is, add-one r) (rw (drop-cons s r d inside) at e)
    where
      long : length (take a work ++ new) ≡ a + w
      long = omega (arith, length-append (take a work) new, length-take-le a work (omega arith))

      split : put_mid a w work new ≡ (take a work ++ new) ++ drop w (drop a work)
      split = sym (append_assoc (take a work) new (drop w (drop a work)))

      front : take (a + w) (put_mid a w work new) ≡ take a work ++ new
      front = ap (take (a + w)) split ∙ take_at (take a work ++ new) (drop w (drop a work)) (a + w) long

      back : drop (a + w) (put_mid a w work new) ≡ drop w (drop a work)
      back = ap (drop (a + w)) split ∙ drop_at (take a work ++ new) (drop w (drop a work)) (a + w) long

-- In the loop's terms: r rows are done, of as many as s has.
module _ {A B : Type 0} (f : B → List A → List A) (d : B) (s : List B) (whole : List A) (w : ℕ) where
  abbrev pub RowsSoFar : ℕ → List A → Type 0
  RowsSoFar r work = take (r * w) work ++ flat (zip_with f (drop r s) (rows_of w (length s - r) (drop (r * w) work))) ≡ whole

  pub rows_step : (r a e : ℕ) (work new : List A) → r < length s → a ≡ r * w → e ≡ a + w → e ≤ length work
      → new ≡ f (get_or s r d) (mid_of a (e - a) work) → length new ≡ w → RowsSoFar r work → RowsSoFar (r + 1) (put_mid a (e - a) work new)
  rows_step r a e work new h p q l is size so =
      let m : e - a ≡ w = omega arith in
      let i : length s - r ≡ suc (length s - (r + 1)) = omega arith in
      let n : (r + 1) * w ≡ r * w + w = rw (add-one r) (suc-mul r w) in
      rw (m, n, p) (row_turn f d s work whole new (r * w) w (length s - (r + 1)) r h (omega arith) (rw (m, p) at is) size (rw i at so))

  pub rows_done : (r : ℕ) (work : List A) → length s ≤ r → length work ≤ r * w → RowsSoFar r work → work ≡ whole
  unfolding zip_with
  rows_done r work h l so =
      let z : length s - r ≡ 0 = omega arith in
      sym (append-nil work) ∙ (rw (z, take_all (r * w) work l, no_rows (drop r s)) at so)
    where
      no_rows : (t : List B) → flat (zip_with f t []) ≡ []
      no_rows [] = refl
      no_rows (x ∷ t) = refl
