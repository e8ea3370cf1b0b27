-- The numbers of a line stand in its text one after the other.
use mathlib.Core.Path.{◌≡◌, refl, ap, ◌∙◌}
use mathlib.Core.Bool.{false}
use mathlib.Core.Option.{some}
use mathlib.Core.List.{List, [], ◌∷◌, ◌++◌, append_assoc, append-nil}
use Prim.Native.Nat.{ℕ, zero, suc, ◌*◌, ◌≤◌}
use native.Mathlib.Nat.{suc-mul}
use native.Mathlib.Omega.{arith}
use lib.Dec.{eqb}
use lib.ListN.{length, length-append}
use Rattle.grids.specs.Rows.{flat}
use Rattle.pictures.specs.declared.sizes.Kind.{Kind}
use Rattle.pictures.specs.declared.sizes.Kind.TheVariants.{Grey, Rgb}
use Rattle.pictures.specs.Pictures.{channels_of}
use Rattle.pictures.specs.Numbers.{largest_number}
use Rattle.text_theory.specs.Decimal.{digits, is_digit}
use Rattle.text_theory.specs.Files.{blank, opening, closing, closed, each, joined, pixel_text, All, Pixel}
use Rattle.text_theory.proofs.Decimals.{clear, number_reads}
use Rattle.text_read.specs.Inner.{figure, figures, Coming, beyond, after_line}
use Rattle.text_read.proofs.Figures.{figure_gap, figure-here}

-- The numbers xs, none over the limit, stand in the bytes one after the other, and neither a digit nor a line end between them; a line
-- end comes next, and then u.
pub data Stand (limit : ℕ) (u : List ℕ) : List ℕ → List ℕ → Type 0 where
  end : Stand limit u [] (10 ∷ u)
  gap : {b : ℕ} {xs s : List ℕ} → is_digit b ≡ false → eqb b 10 ≡ false → Stand limit u xs s → Stand limit u xs (b ∷ s)
  more : {x : ℕ} {xs s : List ℕ} → x ≤ limit → clear s → Stand limit u xs s → Stand limit u (x ∷ xs) (digits x ++ s)

module _ (limit : ℕ) where
  coming_gap : (n b : ℕ) (s : List ℕ) → is_digit b ≡ false → Coming limit n s → Coming limit n (b ∷ s)
  coming_gap zero b s h k = tt
  coming_gap (suc n) b s h k = (k.0, figure_gap b s h ∙ k.1, k.2, k.3)

  figures_gap : (n b : ℕ) (s : List ℕ) → is_digit b ≡ false → figures n (b ∷ s) ≡ figures n s
  unfolding figures
  figures_gap zero b s h = refl
  figures_gap (suc n) b s h = rw (figure_gap b s h)

  beyond_gap : (n b : ℕ) (s : List ℕ) → is_digit b ≡ false → eqb b 10 ≡ false → after_line (beyond n (b ∷ s)) ≡ after_line (beyond n s)
  unfolding beyond after_line
  beyond_gap zero b s h e = rw e
  beyond_gap (suc n) b s h e = rw (figure_gap b s h)

  module _ (small : limit ≤ largest_number) where
    next-figure : (x : ℕ) (s : List ℕ) → x ≤ limit → clear s → figure (digits x ++ s) ≡ some (x, s)
    next-figure x s h c = figure-here (digits x ++ s) (x, s) ((number_reads largest_number).back x (omega arith) s c)

    pub stand-coming : {u xs s : List ℕ} → Stand limit u xs s → Coming limit (length xs) s
    stand-coming end = tt
    stand-coming {xs = xs} (gap {b} {s = s} h e k) = coming_gap (length xs) b s h (stand-coming k)
    stand-coming (more {x} {s = s} h c k) = ((x, s), next-figure x s h c, h, stand-coming k)

    pub stand-beyond : {u xs s : List ℕ} → Stand limit u xs s → after_line (beyond (length xs) s) ≡ u
    unfolding beyond after_line
    stand-beyond end = refl
    stand-beyond {xs = xs} (gap {b} {s = s} h e k) = beyond_gap (length xs) b s h e ∙ stand-beyond k
    stand-beyond (more {x} {s = s} h c k) = rw (next-figure x s h c) (stand-beyond k)

    pub stand-figures : {u xs s : List ℕ} → Stand limit u xs s → figures (length xs) s ≡ xs
    unfolding figures
    stand-figures end = refl
    stand-figures {xs = xs} (gap {b} {s = s} h e k) = figures_gap (length xs) b s h ∙ stand-figures k
    stand-figures (more {x} {s = s} h c k) = rw (next-figure x s h c) (ap (x ∷◌) (stand-figures k))

-- The numbers of a line's text stand in it.
clear-each : {A : Type 0} (put : A → List ℕ) (xs : List A) (t : List ℕ) → clear t → clear (each blank put xs ++ t)
unfolding each blank is_digit
clear-each put [] t c = c
clear-each put (x ∷ xs) t c = refl

-- After them the closing bracket and the line end.
pub closed_stand : (limit : ℕ) (u : List ℕ) → Stand limit u [] (closed ++ u)
unfolding closed is_digit
closed_stand limit u = gap refl refl end

module _ (u : List ℕ) where
  pub numbers_stand : (limit : ℕ) (xs t : List ℕ) → All (λ (a : ℕ). a ≤ limit) xs → clear t → Stand limit u [] t → Stand limit u xs (each blank digits xs ++ t)
  unfolding each blank is_digit
  numbers_stand limit [] t a c e = e
  numbers_stand limit (x ∷ xs) t a c e = rw (append_assoc (digits x)) (gap refl refl (more a.0 (clear-each digits xs t c) (numbers_stand limit xs t a.1 c e)))

  pixel_stand : (k : Kind) (px ys s : List ℕ) → Pixel k px → clear s → Stand 255 u ys s → Stand 255 u (px ++ ys) (blank ++ (pixel_text k px ++ s))
  unfolding pixel_text joined each blank opening closing is_digit
  pixel_stand Grey [] ys s h c k = let z = h.count in absurd (omega arith)
  pixel_stand Grey (a ∷ []) ys s h c k = rw append-nil (gap refl refl (more h.small.0 c k))
  pixel_stand Grey (a ∷ b ∷ px) ys s h c k = let z = h.count in absurd (omega arith)
  pixel_stand Rgb [] ys s h c k = let z = h.count in absurd (omega arith)
  pixel_stand Rgb (x ∷ []) ys s h c k = let z = h.count in absurd (omega arith)
  pixel_stand Rgb (x ∷ y ∷ []) ys s h c k = let z = h.count in absurd (omega arith)
  pixel_stand Rgb (x ∷ y ∷ z ∷ []) ys s h c k =
      simp append_assoc
      (gap refl refl (gap refl refl (more h.small.0 refl (gap refl refl (more h.small.1.0 refl (gap refl refl (more h.small.1.1.0 refl (gap refl refl k))))))))
  pixel_stand Rgb (x ∷ y ∷ z ∷ w ∷ px) ys s h c k = let z = h.count in absurd (omega arith)

  pub row_stand : (k : Kind) (row : List (List ℕ)) (t : List ℕ) → All (Pixel k) row → clear t → Stand 255 u [] t → Stand 255 u (flat row) (each blank (pixel_text k) row ++ t)
  unfolding each
  row_stand k [] t a c e = e
  row_stand k (px ∷ row) t a c e =
      rw (append_assoc, append_assoc)
      (pixel_stand k px (flat row) (each blank (pixel_text k) row ++ t) a.0 (clear-each (pixel_text k) row t c) (row_stand k row t a.1 c e))

pub row_count_lem : (k : Kind) (row : List (List ℕ)) → All (Pixel k) row → length (flat row) ≡ length row * channels_of k
row_count_lem k [] a = omega arith
row_count_lem k (px ∷ row) a = rw length-append (omega (arith, a.0.count, row_count_lem k row a.1, suc-mul (length row) (channels_of k)))
