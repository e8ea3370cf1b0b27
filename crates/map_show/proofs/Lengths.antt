-- How many bytes a row shows at a width.
use mathlib.Core.Path.{◌≡◌, sym, ap, ◌∙◌}
use mathlib.Core.Logic.{⊎_elim}
use mathlib.Core.Bool.{Bool, true, false}
use mathlib.Core.List.{List, [], ◌∷◌}
use Prim.Native.Nat.{ℕ, ◌-◌, ◌*◌, ◌≤◌, ◌<◌}
use native.Mathlib.Omega.{arith}
use borrow.Author.Tests.{le-leb, lt-leb}
use lib.ListN.{length}
use Rattle.grids.specs.Each.{Each, none, more}
use Rattle.grids.specs.Rows.{rows_of, flat}
use Rattle.grids.proofs.Orders.{le-or-lt}
use Rattle.grids.proofs.Rows.{length-rows_of, grid-rows_of, length-flat}
use Rattle.seam_theory.specs.Paths.{cons_if}
use Rattle.pictures.specs.declared.sizes.Kind.{Kind}
use Rattle.pictures.specs.Pictures.{pixel_bytes, row_in}
use Rattle.pictures.proofs.Samples.{pixel-plain, row-in-plain, row-out-plain}
use Rattle.map_theory.specs.Widths.{doubled, keep_row, grow_last, grow_from, grow_row, row_at_width, average}
use Rattle.map_theory.proofs.Widths.{at_narrow, at_wide}
use Rattle.map_show.specs.Showing.{row_shown, pixels_at}
use Rattle.map_show.specs.Inner.Rows.{pixels_in, shown, kept_pixels, grown}
use Rattle.map_show.proofs.Samples.{length-average}
use Rattle.map_show.proofs.Counts.{pixels-shown}

-- What is shown has the property of all pixels, where means have it too.
module _ {A : Type 0} {P : A → Type 0} (mean : A → A → A) (closed : (x y : A) → P x → P y → P (mean x y)) where
  each-cons_if : (b : Bool) {x : A} {zs : List A} → P x → Each P (length zs) zs → Each P (length (cons_if b x zs)) (cons_if b x zs)
  each-cons_if true p e = more p e
  each-cons_if false p e = e

  each_self : {n : ℕ} {zs : List A} → Each P n zs → Each P (length zs) zs
  each_self none = none
  each_self (more p e) = more p (each_self e)

  each_keep : (f : ℕ → Bool) {n : ℕ} {xs : List A} (ys : List ℕ) → Each P n xs → Each P (length (keep_row f xs ys)) (keep_row f xs ys)
  each_keep f ys none = none
  each_keep f [] (more p e) = none
  each_keep f (v ∷ ys) (more p e) = each-cons_if (f v) p (each_keep f ys e)

  each_last : (wrap new : Bool) {first l x : A} → P first → P l → P x → Each P (length (grow_last mean wrap new first l x)) (grow_last mean wrap new first l x)
  each_last false new {first} {l} {x} f q p = each-cons_if new (closed x l p q) (more p none)
  each_last true new {first} {l} {x} f q p = more p (each-cons_if new (closed x first p f) none)

  module _ (wrap : Bool) where
    each_from : (u : ℕ) (first l : A) {n : ℕ} {xs : List A} (ys : List ℕ) → P first → P l → Each P n xs
        → Each P (length (grow_from mean wrap u first l xs ys)) (grow_from mean wrap u first l xs ys)
    each_from u first l ys f q none = none
    each_from u first l [] f q (more p e) = each_self (more p e)
    each_from u first l (v ∷ ys) f q (more p none) = each_last wrap (doubled u v) f q p
    each_from u first l (v ∷ ys) f q (more {x = x} p (more {x = r} o e)) =
        more p (each-cons_if (doubled u v) (closed x r p o) (each_from u first x ys f p (more o e)))

    each_grow : (u : ℕ) {n : ℕ} {xs : List A} (ys : List ℕ) → Each P n xs → Each P (length (grow_row mean wrap u xs ys)) (grow_row mean wrap u xs ys)
    each_grow u ys none = none
    each_grow u ys (more {x = x} p e) = each_from u x x ys p p (more p e)

    each-shown : (m v : ℕ) {n : ℕ} {xs : List A} (ys : List ℕ) → Each P n xs → Each P (length (row_at_width mean wrap m v xs ys)) (row_at_width mean wrap m v xs ys)
    each-shown m v {xs = xs} ys e = ⊎_elim narrow wide (le-or-lt v m)
      where
        narrow : v ≤ m → Each P (length (row_at_width mean wrap m v xs ys)) (row_at_width mean wrap m v xs ys)
        narrow h = rw (at_narrow mean wrap m v xs ys h) (each_keep _ ys e)

        wide : m < v → Each P (length (row_at_width mean wrap m v xs ys)) (row_at_width mean wrap m v xs ys)
        wide h = rw (at_wide mean wrap m v xs ys h) (each_grow (v - m) ys e)

-- A row's bytes, for any number of channels.
module _ (ch : ℕ) (wrap : Bool) (samples ys : List ℕ) (v : ℕ) (whole : length samples ≡ length ys * ch) where
  pub length-shown : length (shown ch wrap samples ys v) ≡ pixels_at ys v * ch
  unfolding shown
  length-shown =
      let xs = pixels_in ch samples ys in
      length-flat (each-shown {P = λ x. length x ≡ ch} average (λ x y p q. length-average ch x y p q) wrap (length ys) v ys (grid-rows_of ch (length ys) samples (omega arith)))
      ∙ ap (◌* ch) (pixels-shown average wrap xs ys v (length-rows_of ch (length ys) samples))

pub narrow_is : (ch : ℕ) (wrap : Bool) (samples ys : List ℕ) (v : ℕ) → v ≤ length ys → shown ch wrap samples ys v ≡ kept_pixels ch samples ys (length ys - v)
unfolding shown kept_pixels row_at_width
narrow_is ch wrap samples ys v h = rw (le-leb v (length ys) h)

pub wide_is : (ch : ℕ) (wrap : Bool) (samples ys : List ℕ) (v : ℕ) → length ys < v → shown ch wrap samples ys v ≡ grown ch wrap samples ys (v - length ys)
unfolding shown grown row_at_width
wide_is ch wrap samples ys v h = rw (lt-leb v (length ys) h)

-- And of a row of a kind, whose samples are bytes.
pub row_shown_is : (k : Kind) (wrap : Bool) (samples ys : List ℕ) (v : ℕ) → row_shown k wrap samples ys v ≡ shown (pixel_bytes k) wrap samples ys v
unfolding row_shown shown
row_shown_is k wrap samples ys v =
    let m = length ys in
    row-out-plain k (row_at_width average wrap m v (row_in k m samples) ys)
    ∙ ap (λ xs. flat (row_at_width average wrap m v xs ys)) (row-in-plain k m samples ∙ ap (λ n. rows_of n m samples) (sym (pixel-plain k)))
