-- Marks moved as a grey picture: what is done to its bytes is done to the rows of marks.
use mathlib.Core.Path.{◌≡◌, refl, sym, ap, ap₂, ◌∙◌}
use mathlib.Core.List.{List, [], ◌∷◌, ◌++◌, map, append-nil, append_assoc}
use Prim.Native.Nat.{ℕ, ◌-◌, ◌*◌, ◌≤◌}
use native.Mathlib.Nat.{mul-one, le_of_eq}
use lib.ListN.{length, take, drop}
use lib.Seq.{take_at, drop_at}
use borrow.Rule.Slice.PartMut.{put_mid}
use Rattle.grids.specs.Each.{Grid, none, more}
use Rattle.grids.specs.Rows.{rows_of, flat}
use Rattle.grids.specs.Cut.{cut}
use Rattle.grids.proofs.Rows.{grid-rows_of, rows_of-flat, length-flat}
use Rattle.grids.proofs.Parts.{put_part}
use Rattle.grids.proofs.Exchange.{exchange-grid}
use Rattle.grids.proofs.Maps.{single, cut-map, exchange-map, rows_of-single, rows-single}
use Rattle.pictures.specs.declared.sizes.Kind.TheVariants.{Grey}
use Rattle.pictures.specs.declared.sizes.Size.{Size}
use Rattle.pictures.specs.Refusals.{refusal}
use Rattle.pictures.specs.Pictures.{pixel_bytes, picture_bytes, size_rules, picture, bytes, pixels, marks_of, picture_in, marks_in}
use Rattle.pictures.proofs.Limits.{Sized, sized-served, sides_of}
use Rattle.pictures.proofs.Buffers.{picture-of_size, picture_plain, bytes_plain}
use Rattle.seam_rules.specs.declared.answers.Axis.{Axis}
use Rattle.seam_rules.specs.declared.answers.Axis.TheVariants.{Vertical, Horizontal}
use Rattle.seam_rules.specs.Axes.{turned_size, grey_of}
use Rattle.seam_turn.specs.Axes.{turned, cut_along}
use Rattle.seam_rules.proofs.Turns.{turned-bytes, turned-pixels}
use Rattle.seam_turn.proofs.Turned.{length-turned, turned-picture}

pub grey-bytes : (z : Size) → picture_bytes (grey_of z) ≡ pixels z
unfolding pixel_bytes
grey-bytes z = ap (z.height *◌) (mul-one z.width)

-- Marks of a picture's size are a grey picture of its sides.
pub grey-sized : (z : Size) (n : ℕ) (m : List ℕ) → Sized z n → length m ≡ pixels z → refusal (size_rules (grey_of z) (length m)) ≡ 0
grey-sized z n m s e = rw (e ∙ sym (grey-bytes z)) (sized-served (grey_of z) (sides_of (grey_of z) s.width_some s.width_most s.height_some s.height_most))

single-rows : (w : ℕ) {n : ℕ} {g : List (List ℕ)} → Grid w n g → map (rows_of 1 w) g ≡ map (map single) g
single-rows w none = refl
single-rows w (more {x = x} e g) = ap₂ ◌∷◌ (rows_of-single w x e) (single-rows w g)

marks-grid : (z : Size) (m : List ℕ) → length m ≡ pixels z → Grid z.width z.height (marks_of z m)
marks-grid z m e = grid-rows_of z.width z.height m (le_of_eq (sym e))

-- Each mark is a pixel of one sample.
grey-picture : (z : Size) (m : List ℕ) → length m ≡ pixels z → picture (grey_of z) m ≡ map (map single) (marks_of z m)
unfolding pixel_bytes
grey-picture z m e = picture_plain (grey_of z) m ∙ ap (λ k. map (rows_of 1 z.width) (rows_of k z.height m)) (mul-one z.width) ∙ single-rows z.width (marks-grid z m e)

bytes-single : (g : List (List ℕ)) → bytes Grey (map (map single) g) ≡ flat g
bytes-single g = bytes_plain Grey (map (map single) g) ∙ ap flat (rows-single g)

turned-map : {A B : Type 0} (f : A → B) (x : Axis) (w : ℕ) (p : List (List A)) → turned x w (map (map f) p) ≡ map (map f) (turned x w p)
unfolding turned
turned-map f Vertical w p = refl
turned-map f Horizontal w p = exchange-map f w p

turned-grid : (x : Axis) (z : Size) (g : List (List ℕ)) → Grid z.width z.height g → Grid (turned_size x z).width (turned_size x z).height (turned x z.width g)
unfolding turned
turned-grid Vertical z g h = h
turned-grid Horizontal z g h = exchange-grid h

pub wide-grey : (x : Axis) (z : Size) → (turned_size x (grey_of z)).width ≡ (turned_size x z).width
wide-grey Vertical z = refl
wide-grey Horizontal z = refl

pub tall_grey : (x : Axis) (z : Size) → (turned_size x (grey_of z)).height ≡ (turned_size x z).height
tall_grey Vertical z = refl
tall_grey Horizontal z = refl

module _ (x : Axis) (z : Size) (m : List ℕ) (e : length m ≡ pixels z) where
  -- The bytes of the turned picture are the turned marks, and are read back as such.
  pub marks-turned : bytes Grey (turned x z.width (picture (grey_of z) m)) ≡ flat (turned x z.width (marks_of z m))
  marks-turned = ap (λ p. bytes Grey (turned x z.width p)) (grey-picture z m e) ∙ ap (bytes Grey) (turned-map single x z.width (marks_of z m)) ∙ bytes-single (turned x z.width (marks_of z m))

  pub marks-long : length (flat (turned x z.width (marks_of z m))) ≡ pixels z
  marks-long = length-flat (turned-grid x z (marks_of z m) (marks-grid z m e)) ∙ turned-pixels x z

  pub marks_back : marks_of (turned_size x z) (flat (turned x z.width (marks_of z m))) ≡ turned x z.width (marks_of z m)
  marks_back =
      let t = turned_size x z in
      let g = turned x z.width (marks_of z m) in
      ap (rows_of t.width t.height) (sym (append-nil (flat g))) ∙ rows_of-flat [] (turned-grid x z (marks_of z m) (marks-grid z m e))

  -- The bytes of the cut picture are the cut marks.
  pub marks-cut : (s : List ℕ) → bytes Grey (cut_along x (grey_of z) s (picture (grey_of z) m)) ≡ flat (cut_along x z s (marks_of z m))
  unfolding cut_along
  marks-cut s =
      let w = (turned_size x z).width - 1 in
      ap₂ (λ k p. bytes Grey (turned x (k - 1) (cut s (turned x z.width p)))) (wide-grey x z) (grey-picture z m e)
      ∙ ap (λ p. bytes Grey (turned x w (cut s p))) (turned-map single x z.width (marks_of z m))
      ∙ ap (λ p. bytes Grey (turned x w p)) (cut-map single s (turned x z.width (marks_of z m)))
      ∙ ap (bytes Grey) (turned-map single x w (cut s (turned x z.width (marks_of z m))))
      ∙ bytes-single (turned x w (cut s (turned x z.width (marks_of z m))))

-- The turned marks put after the turned picture: `mid` stood there before.
pub put_after : (x : Axis) (z : Size) (b m work space mid marks : List ℕ) → length b ≡ picture_bytes z → length m ≡ pixels z → length b ≤ length space
    → space ≡ bytes z.kind (turned x z.width (picture z b)) ++ drop (picture_bytes z) work
    → marks ≡ bytes Grey (turned x z.width (picture (grey_of z) m)) ++ drop (picture_bytes (grey_of z)) mid
    → put_mid (length b) (length space - length b) space marks
    ≡ bytes z.kind (turned x z.width (picture z b)) ++ (flat (turned x z.width (marks_of z m)) ++ (drop (picture_bytes (grey_of z)) mid ++ drop (length space) space))
put_after x z b m work space mid marks is-picture is-marks fits e f =
    let front = bytes z.kind (turned x z.width (picture z b)) in
    let more = drop (picture_bytes (grey_of z)) mid in
    let long : length (bytes z.kind (turned x z.width (picture z b))) ≡ length b = length-turned x z (picture z b) (picture-of_size z b is-picture) ∙ turned-bytes x z ∙ sym is-picture in
    put_part (length b) (length space) space marks fits
    ∙ ap₂ (λ l r. l ++ (r ++ drop (length space) space))
    (ap (take (length b)) e ∙ take_at front (drop (picture_bytes z) work) (length b) long)
    (f ∙ ap (◌++ more) (marks-turned x z m is-marks))
    ∙ ap (front ++◌) (append_assoc (flat (turned x z.width (marks_of z m))) more (drop (length space) space))

-- A picture and its marks, turned, one after the other at the front of a space, read back.
module _ (x : Axis) (z : Size) (b m space rest : List ℕ) (is-picture : length b ≡ picture_bytes z) (is-marks : length m ≡ pixels z)
    (stands : space ≡ bytes z.kind (turned x z.width (picture z b)) ++ (flat (turned x z.width (marks_of z m)) ++ rest)) where
  pub picture_there : picture_in (turned_size x z) space ≡ turned x z.width (picture z b)
  picture_there = turned-picture x z b space (flat (turned x z.width (marks_of z m)) ++ rest) is-picture stands

  pub marks_there : marks_in (turned_size x z) space ≡ turned x z.width (marks_of z m)
  marks_there =
      let t = turned_size x z in
      let front = bytes z.kind (turned x z.width (picture z b)) in
      let marks = flat (turned x z.width (marks_of z m)) in
      let long : length (bytes z.kind (turned x z.width (picture z b))) ≡ picture_bytes (turned_size x z) = length-turned x z (picture z b) (picture-of_size z b is-picture) in
      ap (λ l. marks_of t (take (pixels t) (drop (picture_bytes t) l))) stands
      ∙ ap (λ l. marks_of t (take (pixels t) l)) (drop_at front (marks ++ rest) (picture_bytes t) long)
      ∙ ap (marks_of t) (take_at marks rest (pixels t) (marks-long x z m is-marks ∙ sym (turned-pixels x z)))
      ∙ marks_back x z m is-marks
