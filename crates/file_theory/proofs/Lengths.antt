-- The length of a file is known without its seams: each row of the map has 1 to k once, and zeros.
use mathlib.Core.Path.{◌≡◌, refl, sym, ap, ◌∙◌}
use mathlib.Core.List.{List, [], ◌∷◌, map}
use Prim.Native.Nat.{ℕ, zero, suc, ◌+◌, ◌-◌, ◌*◌, ◌≤◌}
use native.Mathlib.Nat.{zero-mul, suc-mul}
use native.Mathlib.Omega.{arith}
use lib.ListN.{length, length-append}
use Rattle.grids.specs.Each.{Each, Grid, none, more}
use Rattle.grids.proofs.Shapes.{grid_of}
use Rattle.seam_theory.specs.Paths.{run}
use Rattle.pictures.specs.declared.sizes.Kind.{Kind}
use Rattle.pictures.specs.Pictures.{Picture, OfSize}
use Rattle.map_theory.specs.Maps.{insert_at, later, number_row, map_of}
use Rattle.map_theory.specs.Judged.{column_of, Numbering, lower_row}
use Rattle.map_theory.proofs.Lowered.{number-lower_row, length-lower_row}
use Rattle.map_theory.proofs.Numberings.{numbering_none, numbering_lower}
use Rattle.map_theory.proofs.Doubled.{zeros_numbering}
use Rattle.map_theory.proofs.Maps.{map-grid, map-numbered}
use Rattle.text_theory.specs.declared.Head.{Head}
use Rattle.text_theory.specs.Decimal.{digits}
use Rattle.text_theory.specs.Files.{closed, row_word, map_word, pixel_text, line_text, row_text, map_text, text}
use Rattle.text_theory.specs.Lengths.{total, spaced, row_length, map_length, head_length}
use Rattle.text_theory.proofs.Decimals.{digits_small}
use Rattle.text_theory.proofs.Lengths.{each-length, Counted, row_length_lem, map_length_lem, head_length_lem}
use Rattle.file_theory.specs.Contents.{choose_of, file_of}
use Rattle.file_theory.proofs.Heads.{head_chooses}
use Rattle.file_theory.proofs.Shapes.{all-each}

-- Sums over a row with one element more, over changed numbers, and over zeros.
total_insert : (f : ℕ → ℕ) (c a : ℕ) (ys : List ℕ) → total f (insert_at c a ys) ≡ f a + total f ys
unfolding total
total_insert f zero a ys = refl
total_insert f (suc c) a [] = refl
total_insert f (suc c) a (y ∷ ys) = omega (arith, total_insert f c a ys)

total-map : (f g : ℕ → ℕ) (ys : List ℕ) → total f (map g ys) ≡ total (λ v. f (g v)) ys
unfolding total
total-map f g [] = refl
total-map f g (y ∷ ys) = omega (arith, total-map f g ys)

total-zeros : (f : ℕ → ℕ) (ys : List ℕ) → total f (map (λ v. 0) ys) ≡ length ys * f 0
unfolding total
total-zeros f [] = sym (zero-mul (f 0))
total-zeros f (y ∷ ys) = omega (arith, total-zeros f ys, suc-mul (length ys) (f 0))

-- The numbers 1 to k, one more each, are 2 to k + 1.
total-later : (f : ℕ → ℕ) (lo n : ℕ) → total (λ v. f (later v)) (run (suc lo) n) ≡ total f (run (suc (suc lo)) n)
unfolding total run
total-later f lo zero = refl
total-later f lo (suc n) = omega (arith, total-later f (suc lo) n)

-- A sum over a numbering doesn't depend on the order.
total_numbering : (k : ℕ) (f : ℕ → ℕ) (ys : List ℕ) → Numbering k ys → total f ys + k * f 0 ≡ total f (run 1 k) + length ys * f 0
unfolding total run number_row
total_numbering zero f ys n =
    let z = numbering_none ys ys refl n in
    omega (arith, ap (total f) z, total-zeros f ys, zero-mul (f 0))
total_numbering (suc k) f ys n =
    let one = n.once 1 (omega arith) (omega arith) in
    let zs : List ℕ = lower_row 1 ys in
    let e : total f (insert_at (column_of 1 ys) 1 (map later zs)) ≡ total f ys = ap (total f) (number-lower_row ys one) in
    omega (
      arith,
      e,
      total_insert f (column_of 1 ys) 1 (map later zs),
      total-map f later zs,
      total_numbering k (λ v. f (later v)) zs (numbering_lower k ys n),
      total-later f 0 k,
      suc-mul k (f 0),
      suc-mul (length zs) (f 0),
      ap (λ (n : ℕ). n * f 0) (length-lower_row ys one),
    )

zero_spaced : spaced 0 ≡ 2
unfolding spaced
zero_spaced = rw (digits_small 0 (omega arith))

-- A row of m numbers of which the depth is k: the numbers 1 to k, and m - k zeros.
pub row-total : (k m : ℕ) (ys : List ℕ) → length ys ≡ m → Numbering k ys → total spaced ys ≡ total spaced (run 1 k) + 2 * (m - k)
row-total k m ys e n =
    let t : total spaced ys + k * 2 ≡ total spaced (run 1 k) + length ys * 2 = rw zero_spaced at (total_numbering k spaced ys n) in
    omega (arith, t, zeros_numbering k ys n)

maps-total : {k m n : ℕ} {q : List (List ℕ)} → Grid m n q → Each (Numbering k) n q → total map_length q ≡ n * (total spaced (run 1 k) + 2 * (m - k) + 6)
unfolding total map_length
maps-total {k} {m} none none = sym (zero-mul (total spaced (run 1 k) + 2 * (m - k) + 6))
maps-total {k} {m} (more {n = n} {x = ys} e g) (more u q) =
    omega (arith, row-total k m ys e u, maps-total g q, suc-mul n (total spaced (run 1 k) + 2 * (m - k) + 6))

row_line_lem : (k : Kind) (row : List (List ℕ)) → Counted k row → length row_word + length (line_text (pixel_text k) row) ≡ row_length k row
unfolding row_text
row_line_lem k row c = sym (length-append row_word (line_text (pixel_text k) row)) ∙ row_length_lem k row c

map_line_lem : (row : List ℕ) → length map_word + length (line_text digits row) ≡ map_length row
unfolding map_text
map_line_lem row = sym (length-append map_word (line_text digits row)) ∙ map_length_lem row

-- The length of the file of a picture, at a depth not over its width.
pub file-length : (h : Head) (p : Picture) → OfSize h.size p → h.depth ≤ h.size.width
    → length (file_of h p) ≡ head_length h + total (row_length h.size.kind) p
    + h.size.height * (total spaced (run 1 h.depth) + 2 * (h.size.width - h.depth) + 6) + 2
unfolding file_of text closed
file-length h p o d =
    let k : ℕ = h.depth in
    let m : ℕ = h.size.width in
    let n : ℕ = h.size.height in
    let q : List (List ℕ) = map_of (choose_of h) k m n p in
    let g : Grid m n p = grid_of o in
    let c : Kind = h.size.kind in
    let rows = each-length row_word (line_text (pixel_text c)) (row_length c) (Counted c) (row_line_lem c) p (all-each (λ row e. all-each (λ px l. l) e) o) in
    let maps = each-length map_word (line_text digits) map_length (λ a. Unit) (λ a u. map_line_lem a) q (all-each {Q = λ a. Unit} (λ a e. tt) (map-grid (choose_of h) (head_chooses h) k m n p g d)) in
    simp length-append
    (omega (arith, head_length_lem h, rows, maps, maps-total (map-grid (choose_of h) (head_chooses h) k m n p g d) (map-numbered (choose_of h) (head_chooses h) k m n p g d)))
