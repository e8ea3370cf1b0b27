-- The pixels of a row's bytes: what their text is made of.
use mathlib.Core.Path.{◌≡◌, refl, sym, ap, ◌∙◌}
use Rattle.std.proofs.Common.{List, [], ◌∷◌, ◌++◌, ℕ, zero, suc, ◌/◌, length, get_or, take, drop, append-nil, append_assoc, arith}
use native.Mathlib.Nat.{div-add-mod'}
use Rattle.std.specs.Simd.{first_chunks}
use Rattle.grids.specs.Rows.{rows_of}
use Rattle.pictures.specs.declared.sizes.Kind.TheVariants.{Grey, Rgb}
use Rattle.pictures.specs.Pictures.{pixel_bytes}
use Rattle.pictures.proofs.Samples.{row-in-plain}
use Rattle.text_theory.specs.declared.Name.TheVariants as name
use Rattle.text_theory.specs.Decimal.{digits}
use Rattle.text_theory.specs.Words.{name_text}
use Rattle.text_theory.specs.Files.{blank, opening, closing, closed, begun, row_word, each, joined, pixel_text, line_text, row_text}
use Rattle.std.specs.Prelude.{Option, None, Some}
use Rattle.text_lengths.specs.Sinks.{puts}
use Rattle.text_lengths.specs.Rooms.{pixels_of}
use Rattle.text_lengths.proofs.Sinks.{further, no_further, puts_one}

pub chunks_are : {A : Type 0} (w n : ℕ) (b : List A) → first_chunks w n b ≡ rows_of w n b
chunks_are w zero b = refl
chunks_are w (suc n) b = ap (λ r. take w b ∷ r) (chunks_are w n (drop w b))

grey-each : (b : List ℕ) → each blank (pixel_text Grey) (rows_of 1 (length b) b) ≡ each blank digits b
unfolding each pixel_text joined
grey-each [] = refl
grey-each (x ∷ b) = rw (append-nil, grey-each b)

-- A row of samples, each a pixel; and a row of pixels of three.
pub grey_row : (b : List ℕ) → row_text Grey (pixels_of Grey b) ≡ (opening ++ name_text name.Row) ++ (each blank digits b ++ closed)
unfolding pixel_bytes row_text line_text row_word begun
grey_row b =
    let one : length b / 1 ≡ length b = omega (arith, div-add-mod' (length b) 1) in
    rw (row-in-plain Grey (length b / 1) b, one, grey-each b)

pub rgb_row : (b : List ℕ) → row_text Rgb (pixels_of Rgb b) ≡ (opening ++ name_text name.Row) ++ (each blank (pixel_text Rgb) (pixels_of Rgb b) ++ closed)
unfolding row_text line_text row_word begun
rgb_row b = refl

-- The pixels are the chunks of three.
pub rgb_pixels : (b : List ℕ) → pixels_of Rgb b ≡ first_chunks 3 (length b / 3) b
unfolding pixel_bytes
rgb_pixels b = row-in-plain Rgb (length b / 3) b ∙ sym (chunks_are 3 (length b / 3) b)

-- A pixel of three samples: its brackets, the first sample, and the others, each after a blank.
pixel-parts : (px : List ℕ) → length px ≡ 3
    → pixel_text Rgb px ≡ (40 ∷ []) ++ (digits (get_or px 0 0) ++ (each blank digits (get_or px 1 0 ∷ get_or px 2 0 ∷ []) ++ (41 ∷ [])))
unfolding pixel_text joined opening closing
pixel-parts [] h = absurd (omega arith)
pixel-parts (x ∷ []) h = absurd (omega arith)
pixel-parts (x ∷ y ∷ []) h = absurd (omega arith)
pixel-parts (x ∷ y ∷ z ∷ []) h = ap (40 ∷◌) (append_assoc (digits x) (each blank digits (y ∷ z ∷ [])) (41 ∷ []))
pixel-parts (x ∷ y ∷ z ∷ u ∷ px) h = absurd (omega arith)

-- What a sink is after it, part by part.
module _ {S : Type 0} (takes : S → ℕ → Option S) (s : S) (px : List ℕ) (three : length px ≡ 3) where
  abbrev others : List ℕ
  others = each blank digits (get_or px 1 0 ∷ get_or px 2 0 ∷ [])

  parts : puts takes s (pixel_text Rgb px) ≡ puts takes s ((40 ∷ []) ++ (digits (get_or px 0 0) ++ (others ++ (41 ∷ []))))
  parts = ap (puts takes s) (pixel-parts px three)

  pub no_bracket : None ≡ takes s 40 → None ≡ puts takes s (pixel_text Rgb px)
  no_bracket e = no_further takes s (40 ∷ []) _ (e ∙ sym (puts_one takes s 40)) ∙ sym parts

  module _ {t : S} (bracket : Some t ≡ takes s 40) where
    begun_is : puts takes s (pixel_text Rgb px) ≡ puts takes t (digits (get_or px 0 0) ++ (others ++ (41 ∷ [])))
    begun_is = parts ∙ further takes s (40 ∷ []) _ (bracket ∙ sym (puts_one takes s 40))

    pub no_first : None ≡ puts takes t (digits (get_or px 0 0)) → None ≡ puts takes s (pixel_text Rgb px)
    no_first e = no_further takes t (digits (get_or px 0 0)) _ e ∙ sym begun_is

    module _ {u : S} (first : Some u ≡ puts takes t (digits (get_or px 0 0))) where
      pub no_others : None ≡ puts takes u others → None ≡ puts takes s (pixel_text Rgb px)
      no_others e = no_further takes u others (41 ∷ []) e ∙ sym (begun_is ∙ further takes t (digits (get_or px 0 0)) _ first)

      pub whole_pixel : {v : S} → Some v ≡ puts takes u others → takes v 41 ≡ puts takes s (pixel_text Rgb px)
      whole_pixel {v} e =
          sym (begun_is ∙ further takes t (digits (get_or px 0 0)) _ first ∙ further takes u others (41 ∷ []) e ∙ puts_one takes v 41)
