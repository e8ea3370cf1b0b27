-- Bounds on what the programs write, from which the lengths of their spaces follow.
use mathlib.Core.Path.{◌≡◌, refl}
use mathlib.Core.Bool.{Bool, true, false}
use mathlib.Core.List.{List, [], ◌∷◌}
use Prim.Native.Nat.{ℕ, zero, suc, ◌+◌, ◌-◌, ◌*◌, ◌/◌, ◌≤◌, ◌<◌}
use native.Mathlib.Nat.{suc-mul, mul-add, mul_assoc, mul-le-mul, le_refl}
use native.Mathlib.Omega.{arith}
use lib.Dec.{leb, ltb}
use lib.ListN.{length, length-append}
use borrow.Author.Tests.{leb-true, ltb-true, ltb-false}
use Rattle.grids.specs.Each.{Each, none, more}
use Rattle.seam_theory.specs.Paths.{run}
use Rattle.pictures.specs.Numbers.{largest_number}
use Rattle.pictures.specs.Limits.{most_side}
use Rattle.pictures.specs.declared.sizes.Kind.{Kind}
use Rattle.pictures.specs.declared.sizes.Kind.TheVariants.{Grey, Rgb}
use Rattle.pictures.specs.declared.sizes.Size.{Size}
use Rattle.pictures.specs.Refusals.{refusal}
use Rattle.pictures.specs.Pictures.{largest_sample, Picture, size_rules, picture, pixels}
use Rattle.pictures.proofs.Limits.{sides_are, sides_served}
use Rattle.text_theory.specs.declared.Head.{Head}
use Rattle.text_theory.specs.declared.Name.{Name}
use Rattle.text_theory.specs.Decimal.{digits, digits_up_to}
use Rattle.text_theory.specs.Words.{name_text, kind_name, kind_text, rule_name, rule_text}
use Rattle.text_theory.specs.Files.{blank, line_end, closed, All, Pixel}
use Rattle.text_theory.specs.Lengths.{total, spaced, pixel_length, row_length, begun_length, size_length, range_length, energy_length, head_length}
use Rattle.text_theory.proofs.Names.{each_name}
use Rattle.text_theory.proofs.Decimals.{length_small, length-large}
use Rattle.file_theory.specs.Contents.{file_of}
use Rattle.file_theory.specs.Demands.{AllowedPicture}
use Rattle.file_theory.proofs.Shaped.{allowed-of_size}
use Rattle.file_theory.proofs.Lent.{lent_allowed}
use Rattle.file_theory.proofs.Lengths.{file-length}
use Rattle.program_theory.specs.Netpbm.{letter_p, magic_of, header_text}
use Rattle.program_theory.specs.Programs.{held_pixels, full_range, refused_word, refused_text}
use Rattle.map_theory.specs.Bounds.{most_width}

-- Where the numbers below m have at most c digits, those below ten times m have at most one more.
one_more : (m c : ℕ) → ((n : ℕ) → n < m → length (digits n) ≤ c) → (n : ℕ) → n < m * 10 → length (digits n) ≤ suc c
one_more m c h n l = go (ltb n 10) refl
  where
    go : (x : Bool) → ltb n 10 ≡ x → length (digits n) ≤ suc c
    go true e = omega (arith, length_small n (ltb-true n 10 e))
    go false e = omega (arith, length-large n (ltb-false n 10 e), h (n / 10) (omega arith))

ten : (n : ℕ) → n < 10 → length (digits n) ≤ 1
ten n l = omega (arith, length_small n l)

-- A number of a size has at most three digits, a number of the file's form at most five.
pub digits-most : (n : ℕ) → n < 1000 → length (digits n) ≤ 3
digits-most = one_more 100 2 (one_more 10 1 ten)

pub number-most : (n : ℕ) → n ≤ largest_number → length (digits n) ≤ 5
number-most n l = one_more 10000 4 (one_more 1000 3 digits-most) n (omega arith)

spaced-most : (n : ℕ) → n < 1000 → spaced n ≤ 4
unfolding spaced
spaced-most n l = omega (arith, digits-most n l)

-- Sums of values of which each is at most c.
module _ {A : Type 0} (f : A → ℕ) (c : ℕ) where
  total-each : {P : A → Type 0} {n : ℕ} {xs : List A} → ((x : A) → P x → f x ≤ c) → Each P n xs → total f xs ≤ n * c
  unfolding total
  total-each h none = omega arith
  total-each h (more {n = n} {x = x} p e) = omega (arith, h x p, total-each h e, suc-mul n c)

  total-all : {P : A → Type 0} → ((x : A) → P x → f x ≤ c) → (xs : List A) → All P xs → total f xs ≤ length xs * c
  unfolding total
  total-all h [] a = omega arith
  total-all h (x ∷ xs) a = omega (arith, h x a.0, total-all h xs a.1, suc-mul (length xs) c)

total-run : (f : ℕ → ℕ) (c lo n : ℕ) → ((v : ℕ) → v < lo + n → f v ≤ c) → total f (run lo n) ≤ n * c
unfolding total run
total-run f c lo zero h = omega arith
total-run f c lo (suc n) h = omega (arith, h lo (omega arith), total-run f c (suc lo) n (λ v l. h v (omega arith)), suc-mul n c)

-- A pixel has at most 14 bytes, ` (255 255 255)`.
samples-most : (px : List ℕ) → All (λ (a : ℕ). a ≤ 255) px → total spaced px ≤ length px * 4
samples-most = total-all spaced 4 (λ a l. spaced-most a (omega arith))

pixel-most : (k : Kind) (px : List ℕ) → Pixel k px → pixel_length k px ≤ 14
unfolding pixel_length
pixel-most Grey px p = omega (arith, p.count, samples-most px p.small)
pixel-most Rgb px p = omega (arith, p.count, samples-most px p.small)

-- A row line, and the row lines of a picture.
row_most : (k : Kind) (w : ℕ) (row : List (List ℕ)) → Each (Pixel k) w row → row_length k row ≤ w * 14 + 6
unfolding row_length
row_most k w row e = omega (arith, total-each (pixel_length k) 14 (pixel-most k) e)

rows-most : (z : Size) (p : Picture) → AllowedPicture z p → total (row_length z.kind) p ≤ z.height * (z.width * 14 + 6)
rows-most z p a = total-each (row_length z.kind) (z.width * 14 + 6) (row_most z.kind z.width) a.pixels

-- The lines up to the energy: no name has over 8 letters.
name_most : (n : Name) → length (name_text n) ≤ 8
name_most n = leb-true (length (name_text n)) 8 (each_name (λ m. leb (length (name_text m)) 8) refl n)

head_most : (h : Head) → h.size.width < 1000 → h.size.height < 1000 → h.depth < 1000 → h.growth < 1000 → head_length h ≤ 65
unfolding head_length size_length range_length energy_length begun_length kind_text rule_text
head_most h a b c d =
    omega (arith, spaced-most h.size.width a, spaced-most h.size.height b, spaced-most h.depth c, spaced-most h.growth d, name_most (kind_name h.size.kind), name_most (rule_name h.method.energy))

-- The file of a picture of at most 1,024 pixels: 18 bytes a pixel, 12 for the two lines of a row, and the other lines.
pub file-most : (z : Size) (b : List ℕ) → All (λ (a : ℕ). a < 256) b → refusal (size_rules z (length b)) ≡ 0 → pixels z ≤ held_pixels
    → length (file_of (full_range z) (picture z b)) ≤ 24662
file-most z b a e l =
    let p = lent_allowed z b a e in
    let s = sides_are z (sides_served z (length b) e) in
    let w : ℕ = z.width in
    let h : ℕ = z.height in
    let wm : w ≤ most_side = s.width_small in
    let hm : h ≤ most_side = s.height_small in
    let ws : 0 < w = s.width_some in
    let k : ℕ = w - 1 in
    let f = file-length (full_range z) (picture z b) (allowed-of_size z (picture z b) p) (omega arith) in
    let t : total spaced (run 1 k) ≤ k * 4 = total-run spaced 4 1 k (λ v l. spaced-most v (omega arith)) in
    let m : h * (total spaced (run 1 k) + 2 * (w - k) + 6) ≤ h * (w * 4 + 6) = mul-le-mul (le_refl h) (omega arith) in
    let top = head_most (full_range z) (omega arith) (omega arith) (omega arith) (omega arith) in
    let rows = rows-most z (picture z b) p in
    omega (arith, f, top, rows, m, mul-add h (w * 14) 6, mul-add h (w * 4) 6, mul_assoc h w 14, mul_assoc h w 4)

-- The numbers of a header that say its kind have one digit and three.
pub magic_length : (k : Kind) → length (digits (magic_of k)) ≡ 1
magic_length Grey = length_small 5 (omega arith)
magic_length Rgb = length_small 6 (omega arith)

pub maxval_length : (k : Kind) → length (digits (largest_sample k)) ≡ 3
unfolding digits digits_up_to
maxval_length Grey = refl
maxval_length Rgb = refl

-- The length of a header, by its numbers.
pub header_length : (z : Size) → length (header_text z) ≡ length (digits z.width) + length (digits z.height) + 9
unfolding header_text letter_p line_end blank
header_length z = simp length-append (omega (arith, magic_length z.kind, maxval_length z.kind))

-- A header, up to the widest picture that is offered.
pub header_most : (z : Size) → z.width ≤ most_width → z.height ≤ most_side → length (header_text z) ≤ 15
header_most z w h = omega (arith, header_length z, digits-most z.width (omega arith), digits-most z.height (omega arith))

-- A refusal.
pub refused-most : (n : ℕ) → n < 1000 → length (refused_text n) ≤ 14
unfolding refused_text refused_word closed
refused-most n l = simp length-append (omega (arith, digits-most n l))
