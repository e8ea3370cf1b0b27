-- Laws of a picture and its marks: their shape, and the shape that a cut leaves.
use mathlib.Core.Path.{◌≡◌, refl, sym, ap, ◌∙◌}
use mathlib.Core.Bool.{Bool, true, false, ◌||◌}
use mathlib.Core.List.{List, [], ◌∷◌, ◌++◌}
use Prim.Native.Nat.{ℕ, zero, suc, ◌*◌, ◌≤◌, ◌<◌}
use native.Mathlib.Nat.{suc-mul}
use native.Mathlib.Omega.{arith}
use lib.Dec.{leb}
use lib.ListN.{length, take, drop, length-drop, take-append-drop}
use lib.Seq.{length-take-le}
use Rattle.grids.specs.Each.{Each, none, more}
use Rattle.grids.specs.Rows.{rows_of, flat}
use Rattle.grids.proofs.Bools.{neither}
use Rattle.grids.proofs.Cut.{cut_narrower}
use Rattle.pictures.specs.declared.sizes.Kind.TheVariants.{Grey}
use Rattle.pictures.specs.declared.sizes.Size.{Size}
use Rattle.pictures.specs.Pictures.{channels_of}
use Rattle.pictures.proofs.Limits.{sized_is}
use Rattle.pictures.proofs.Buffers.{picture-of_size}
use Rattle.energy.specs.declared.methods.Method.{Method}
use Rattle.seam_bounds.specs.Moves.{outside}
use Rattle.seam_bounds.proofs.Moving.{inside_each, each_inside}
use Rattle.seam_rules.specs.declared.answers.Axis.TheVariants.{Vertical}
use Rattle.seam_turn.specs.Axes.{turned}
use Rattle.seam_cut_marked.specs.Axes.{marked_seam_along, blocked_along}
use Rattle.seam_cut_marked.proofs.Marked.{marked_inside}
use Rattle.seam_objects.specs.Objects.{MarkedPicture, no_seam, seam_in, cut_once}
use Rattle.seam_objects.specs.Removing.{marked_picture}
use Rattle.seam_objects.specs.Inner.{SeamsNeeded}
use Rattle.seam_objects.specs.Endings.{LeftShaped}

-- A list of which nothing is outside, taken apart, and put together from rows.
outside-append : (k : ℕ) (xs ys : List ℕ) → outside k (xs ++ ys) ≡ (outside k xs || outside k ys)
unfolding outside
outside-append k [] ys = refl
outside-append k (x ∷ xs) ys = go (leb k x) (outside-append k xs ys)
  where
    go : (t : Bool) → outside k (xs ++ ys) ≡ (outside k xs || outside k ys) → (t || outside k (xs ++ ys)) ≡ ((t || outside k xs) || outside k ys)
    go true e = refl
    go false e = e

inside_parts : (k n : ℕ) (b : List ℕ) → outside k b ≡ false → (outside k (take n b) ≡ false) × (outside k (drop n b) ≡ false)
inside_parts k n b e =
    neither (outside k (take n b)) (outside k (drop n b)) (sym (outside-append k (take n b) (drop n b)) ∙ ap (outside k) (take-append-drop n b) ∙ e)

rows_inside : (k w n : ℕ) (b : List ℕ) → n * w ≤ length b → outside k b ≡ false → Each (Each (λ v. v < k) w) n (rows_of w n b)
rows_inside k w zero b h e = none
rows_inside k w (suc n) b h e =
    let parts = inside_parts k w b e in
    let long : length (take w b) ≡ w = length-take-le w b (omega (arith, suc-mul n w)) in
    more (rw long at (inside_each k (take w b) parts.0))
    (rows_inside k w n (drop w b) (omega (arith, suc-mul n w, length-drop w b)) parts.1)

pub flat_inside : {k w n : ℕ} {p : List (List ℕ)} → Each (Each (λ v. v < k) w) n p → outside k (flat p) ≡ false
unfolding outside
flat_inside none = refl
flat_inside {k} (more {x = x} {xs = xs} e g) = outside-append k x (flat xs) ∙ rw (each_inside e) (flat_inside g)

-- The picture and marks that are brought.
pub shaped_start : (z : Size) (b m work : List ℕ) → SeamsNeeded z b m work → (how : Method) → LeftShaped (channels_of z.kind) (marked_picture z how b m)
shaped_start z b m work s how = record {
  picture_of = picture-of_size z b (sized_is z (length b) s.sized).length_is;
  marks_of_each = rows_inside 3 z.width z.height m (omega (arith, s.marked)) s.few;
}

-- The seam has one column for each row, inside the picture.
seam_inside : (s : MarkedPicture) → no_seam s ≡ false → Each (λ c. c < s.width) s.height (seam_in s)
unfolding blocked_along marked_seam_along turned
seam_inside s e = marked_inside s.method Vertical (record { width = s.width; height = s.height; kind = Grey }) s.picture s.marks e

-- What a cut leaves has its shape, so its marks are marks.
pub shaped_cut : (ch : ℕ) (s : MarkedPicture) → LeftShaped ch s → 1 < s.width → no_seam s ≡ false → LeftShaped ch (cut_once s)
unfolding cut_once
shaped_cut ch s k h e = record {
  picture_of = cut_narrower s.width h (seam_inside s e) k.picture_of;
  marks_of_each = cut_narrower s.width h (seam_inside s e) k.marks_of_each;
}
