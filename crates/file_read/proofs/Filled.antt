-- A lent space that is filled row by row with a list that is known beforehand.
use mathlib.Core.Path.{◌≡◌, sym, ap, ◌∙◌}
use mathlib.Core.List.{List, ◌++◌}
use Prim.Native.Nat.{ℕ, ◌+◌, ◌-◌, ◌*◌, ◌<◌}
use native.Mathlib.Nat.{suc-mul}
use native.Mathlib.Numerals.{add-one}
use native.Mathlib.Omega.{arith}
use lib.ListN.{length, take, drop}
use lib.Seq.{take_at, length-take-le, drop-drop, drop-append-add}
use borrow.Rule.Slice.PartMut.{put_mid}
use Rattle.grids.specs.Rows.{row_at}
use Rattle.grids.proofs.Rows.{part_end, row_more_lem}
use Rattle.grids.proofs.Parts.{put_part}

-- `whole` has rows of w values, and the space had `before` in it.
module _ {A : Type 0} (whole before : List A) (w : ℕ) where
  -- r rows are there, after them what was there before.
  abbrev pub FilledTo : ℕ → List A → Type 0
  FilledTo r now = now ≡ take (r * w) whole ++ drop (r * w) before

  -- The part of row r is lent on and comes back with the row in it.
  pub filled-step : (n r a e : ℕ) (now new : List A) → length whole ≡ n * w → r < n → a ≡ r * w → e ≡ a + w → new ≡ row_at w r whole
      → FilledTo r now → FilledTo (r + 1) (put_mid a (e - a) now new)
  filled-step n r a e now new size h p q is so =
      let front : length (take (r * w) whole) ≡ r * w = length-take-le (r * w) whole (omega (arith, part_end r n w h)) in
      let first : take (r * w) now ≡ take (r * w) whole = ap (take (r * w)) so ∙ take_at (take (r * w) whole) (drop (r * w) before) (r * w) front in
      let behind : drop (r * w + w) now ≡ drop (r * w + w) before =
      ap (λ i. drop (i + w) now) (sym front) ∙ ap (drop (length (take (r * w) whole) + w)) so
      ∙ drop-append-add (take (r * w) whole) (drop (r * w) before) w ∙ drop-drop w (r * w) before in
      let m : (r + 1) * w ≡ r * w + w = rw (add-one r) (suc-mul r w) in
      rw (m, q, p) (put_part (r * w) (r * w + w) now new (omega arith) ∙ rw (first, behind, is) (row_more_lem w r whole before))
