-- The length of a text is what `text_length` says.
use mathlib.Core.Path.{◌≡◌, refl, sym, ◌∙◌}
use mathlib.Core.List.{List, [], ◌∷◌}
use Prim.Native.Nat.{ℕ, suc, ◌+◌}
use native.Mathlib.Omega.{arith}
use lib.ListN.{length, length-append}
use Rattle.pictures.specs.declared.sizes.Kind.{Kind}
use Rattle.pictures.specs.declared.sizes.Kind.TheVariants.{Grey, Rgb}
use Rattle.pictures.specs.Pictures.{channels_of}
use Rattle.pictures.specs.declared.sizes.Size.{Size}
use Rattle.energy.specs.declared.methods.EnergyRule.{EnergyRule}
use Rattle.text_theory.specs.declared.Head.{Head}
use Rattle.text_theory.specs.declared.Name.{Name}
use Rattle.text_theory.specs.declared.Name.TheVariants as name
use Rattle.text_theory.specs.Decimal.{digits}
use Rattle.text_theory.specs.Files.{Parts, line_end, blank, opening, closing, closed, begun, row_word, map_word, each, joined, pixel_text, line_text, row_text, map_text, first_text, size_text, range_text, energy_text, head_text, text, All, Pixel, Within}
use Rattle.text_theory.specs.Lengths.{total, spaced, pixel_length, row_length, map_length, begun_length, size_length, range_length, energy_length, head_length, text_length}

pub each-length : {A : Type 0} (w : List ℕ) (put : A → List ℕ) (f : A → ℕ) (ok : A → Type 0) → ((a : A) → ok a → length w + length (put a) ≡ f a)
    → (xs : List A) → All ok xs → length (each w put xs) ≡ total f xs
unfolding each total
each-length w put f ok e [] a = refl
each-length w put f ok e (x ∷ xs) a = simp length-append (omega (arith, e x a.0, each-length w put f ok e xs a.1))

any_all : {A : Type 0} (xs : List A) → All (λ (a : A). Unit) xs
any_all [] = tt
any_all (x ∷ xs) = (tt, any_all xs)

pub numbers-length : (xs : List ℕ) → length (each blank digits xs) ≡ total spaced xs
unfolding blank spaced
numbers-length xs = each-length blank digits spaced (λ a. Unit) (λ a u. omega arith) xs (any_all xs)

pub joined_length : (a : ℕ) (px : List ℕ) → suc (length (joined (a ∷ px))) ≡ total spaced (a ∷ px)
unfolding joined total spaced
joined_length a px = simp length-append (omega (arith, numbers-length px))

pub pixel_length_lem : (k : Kind) (px : List ℕ) → length px ≡ channels_of k → length blank + length (pixel_text k px) ≡ pixel_length k px
unfolding pixel_text pixel_length blank opening closing
pixel_length_lem Grey [] h = absurd (omega arith)
pixel_length_lem Grey (a ∷ px) h = omega (arith, joined_length a px)
pixel_length_lem Rgb [] h = absurd (omega arith)
pixel_length_lem Rgb (a ∷ px) h = simp length-append (omega (arith, joined_length a px))

-- A row whose pixels have as many samples as their kind says.
abbrev pub Counted : Kind → List (List ℕ) → Type 0
Counted k row = All (λ (px : List ℕ). length px ≡ channels_of k) row

counts : (k : Kind) (row : List (List ℕ)) → All (Pixel k) row → Counted k row
counts k [] a = tt
counts k (px ∷ row) a = (a.0.count, counts k row a.1)

pub row_length_lem : (k : Kind) (row : List (List ℕ)) → Counted k row → length (row_text k row) ≡ row_length k row
unfolding row_text line_text row_length row_word begun opening closed
row_length_lem k row h =
    simp length-append (omega (arith, each-length blank (pixel_text k) (pixel_length k) (λ (px : List ℕ). length px ≡ channels_of k) (pixel_length_lem k) row h))

pub map_length_lem : (row : List ℕ) → length (map_text row) ≡ map_length row
unfolding map_text line_text map_length map_word begun opening closed
map_length_lem row = simp length-append (omega (arith, numbers-length row))

pub begun_length_lem : (n : Name) → length (begun n) ≡ begun_length n
unfolding begun begun_length opening
begun_length_lem n = refl

pub first-length : length first_text ≡ begun_length name.Multi + 1
unfolding first_text line_end
first-length = simp length-append (omega (arith, begun_length_lem name.Multi))

pub size_length_lem : (z : Size) → length (size_text z) ≡ size_length z
unfolding size_text size_length spaced blank closed
size_length_lem z = simp length-append (omega (arith, begun_length_lem name.Size))

pub range_length_lem : (d g : ℕ) → length (range_text d g) ≡ range_length d g
unfolding range_text range_length spaced blank closed
range_length_lem d g = simp length-append (omega (arith, begun_length_lem name.Range))

pub energy_length_lem : (e : EnergyRule) → length (energy_text e) ≡ energy_length e
unfolding energy_text energy_length blank closed
energy_length_lem e = simp length-append (omega (arith, begun_length_lem name.Energy))

pub head_length_lem : (h : Head) → length (head_text h) ≡ head_length h
unfolding head_text head_length
head_length_lem h = simp length-append (omega (arith, first-length, size_length_lem h.size, range_length_lem h.depth h.growth, energy_length_lem h.method.energy))

row_line_lem : (k : Kind) (row : List (List ℕ)) → All (Pixel k) row → length row_word + length (line_text (pixel_text k) row) ≡ row_length k row
unfolding row_text
row_line_lem k row a = sym (length-append row_word (line_text (pixel_text k) row)) ∙ row_length_lem k row (counts k row a)

map_line_lem : (row : List ℕ) → length map_word + length (line_text digits row) ≡ map_length row
unfolding map_text
map_line_lem row = sym (length-append map_word (line_text digits row)) ∙ map_length_lem row

-- The length that a space needs for a text.
pub text_length_lem : (p : Parts) → Within p → length (text p) ≡ text_length p
unfolding text text_length closed
text_length_lem p h =
    let rows = each-length row_word (line_text (pixel_text p.head.size.kind)) (row_length p.head.size.kind) (All (Pixel p.head.size.kind)) (row_line_lem p.head.size.kind) p.rows h.rows in
    let maps = each-length map_word (line_text digits) map_length (λ a. Unit) (λ a u. map_line_lem a) p.maps (any_all p.maps) in
    simp length-append (omega (arith, head_length_lem p.head, rows, maps))
