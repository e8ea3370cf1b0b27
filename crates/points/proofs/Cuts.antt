-- "At each narrower width it shows what cutting that many seams one by one leaves": the cut of the theorems on files is the cut
-- of the operation `cut`.
use Rattle.pictures.specs.declared.refusals.Refusal.{Refusal}
use Rattle.std.specs.Prelude.{Result}
use mathlib.Core.Path.{◌≡◌, refl, sym, ap, ◌∙◌}
use mathlib.Core.Option.{some, some-injective}
use mathlib.Core.List.{List, ◌++◌}
use Prim.Native.Nat.{ℕ, suc, ◌-◌, ◌*◌, ◌≤◌, ◌<◌}
use native.Mathlib.Omega.{arith}
use lib.ListN.{length, replicate}
use borrow.Author.Tests.{le-ltb, ne_eqb}
use Rattle.pictures.specs.declared.sizes.Size.{Size}
use Rattle.pictures.specs.Refusals.{refusal}
use Rattle.pictures.specs.Pictures.{Picture, OfSize, pixel_bytes, side_rules, size_rules, work_bytes, bytes}
use Rattle.pictures.proofs.Rules.{served-first}
use Rattle.pictures.proofs.Limits.{sides_are, sides_of, sized-served}
use Rattle.pictures.proofs.Buffers.{picture_bytes_lem, length-bytes}
use Rattle.map_theory.specs.Maps.{carve}
use Rattle.map_theory.proofs.Maps.{carve-next}
use Rattle.map_theory.proofs.Shown.{offered_is, allowed_is}
use Rattle.text_theory.specs.Files.{Parts, parse}
use Rattle.seam_theory.specs.PictureSeams.{seam_of}
use Rattle.energy.specs.declared.methods.Method.{Method}
use Rattle.seam_rules.specs.Answers.{found_number}
use Rattle.seam_rules.specs.declared.answers.Axis.TheVariants.{Vertical}
use Rattle.seam_rules.specs.Cuts.{room_rules, last_rules, cut_rules}
use Rattle.seam_turn.specs.Axes.{turned, cut_along}
use Rattle.seam_cut.specs.Axes.{seam_along}
use Rattle.seam_cut.specs.Cutting.{CutGiven}
use Rattle.file_theory.specs.Shows.{Accepted, offers, Drawn, sized, shows}
use Rattle.file_theory.proofs.Accepting.{accepted_shaped}
use Rattle.file_theory.proofs.Shaped.{shaped_is}
use Rattle.file_theory.proofs.Demands.{shows-cut, shown-of_size}

-- What the operation `cut` leaves of a picture, vertically, is the picture after one seam.
pub cut-carve : (how : Method) (z : Size) (p : Picture) → cut_along Vertical z (seam_along how Vertical z p) p ≡ carve (seam_of how) 1 z.width z.height p
unfolding cut_along seam_along turned
cut-carve how z p = refl

-- An accepted file of width m, what it shows at width m - t, and what at the next smaller one that it offers.
module _ (f : List ℕ) (p : Parts) (h : Accepted f) (e : parse f ≡ some p) (t : ℕ) (l : t < p.head.depth)
    (a b : Drawn) (s : shows f (p.head.size.width - t) ≡ some a) (u : shows f (p.head.size.width - suc t) ≡ some b) where
  abbrev m : ℕ
  m = p.head.size.width

  abbrev n : ℕ
  n = p.head.size.height

  abbrev z : Size
  z = sized (m - t) p.head.size

  -- The method that the file is judged by.
  abbrev how : Method
  how = p.head.method

  wide : a ≡ record { size = z; rows = carve (seam_of how) t m n p.rows }
  wide = some-injective _ _ (sym s ∙ shows-cut f p h e t (omega arith))

  narrow : b ≡ record { size = sized (m - suc t) p.head.size; rows = carve (seam_of how) (suc t) m n p.rows }
  narrow = some-injective _ _ (sym u ∙ shows-cut f p h e (suc t) (omega arith))

  -- The second is what `cut` leaves of the first.
  pub shows-next : b.rows ≡ cut_along Vertical a.size (seam_along how Vertical a.size a.rows) a.rows
  shows-next =
      ap (λ (d : Drawn). d.rows) narrow ∙ carve-next (seam_of how) t m n p.rows
      ∙ sym (cut-carve how z (carve (seam_of how) t m n p.rows))
      ∙ ap (λ (d : Drawn). cut_along Vertical d.size (seam_along how Vertical d.size d.rows) d.rows) (sym wide)

  of_size : OfSize a.size a.rows
  unfolding offers
  of_size = shown-of_size f h (m - t) (rw e ((offered_is m p.head.depth p.head.growth (m - t)).1 (omega arith, omega arith))) a s

  -- So where its bytes are lent to the operation and it isn't refused, the picture that it promises begins with the bytes of
  -- what the file shows at the next smaller width; the freed bytes are 0.
  pub cut-shown : (seam work : List ℕ) (answer : Result ℕ Refusal) (left seam' work' : List ℕ)
      → found_number answer ≡ 0
      → CutGiven (bytes a.size.kind a.rows) a.size how Vertical seam work answer left seam' work'
      → left ≡ bytes a.size.kind b.rows ++ replicate (a.size.height * pixel_bytes a.size.kind) 0
  cut-shown seam work answer left seam' work' fine c =
      let i = rw (fine, picture_bytes_lem a.size a.rows of_size) at c.picture_left in
      i ∙ ap (λ (r : Picture). bytes a.size.kind r ++ replicate (a.size.height * pixel_bytes a.size.kind) 0) (sym shows-next)

  -- And it isn't refused where there is a place for each column of the seam, and 32 bytes of work space a pixel.
  pub cut-served : (seam work : ℕ) → a.size.height ≤ seam → work_bytes a.size ≤ work
      → refusal (cut_rules Vertical a.size (length (bytes a.size.kind a.rows)) seam work) ≡ 0
  cut-served seam work long room =
      let q = (shaped_is p).0 (accepted_shaped f p e h) in
      let d = ((allowed_is m p.head.depth p.head.growth).0 q.range).0 in
      let k = sides_are p.head.size q.sides in
      let v : a.size ≡ z = ap (λ (d : Drawn). d.size) wide in
      let two : a.size.width ≡ m - t = ap (λ (x : Size). x.width) v in
      let tall : a.size.height ≡ n = ap (λ (x : Size). x.height) v in
      let sides : refusal (side_rules a.size) ≡ 0 = sides_of a.size (omega (arith, two, d)) (omega (arith, two, k.width_most)) (omega (arith, tall, k.height_some)) (omega (arith, tall, k.height_most)) in
      let size : refusal (size_rules a.size (length (bytes a.size.kind a.rows))) ≡ 0 = rw (length-bytes a.size a.rows of_size) (sized-served a.size sides) in
      served-first (size_rules a.size (length (bytes a.size.kind a.rows))) (room_rules Vertical a.size seam work ++ last_rules Vertical a.size) refl size
      ∙ simp (le-ltb _ _ long, le-ltb _ _ room, ne_eqb _ _ (λ (x : a.size.width ≡ 1). omega (arith, two, d, x)))
