-- The rows of a picture as parts of its bytes: the pixels that stand in them, and how long their lines are.
use mathlib.Core.Path.{◌≡◌, sym, ap, ◌∙◌}
use mathlib.Core.List.{List, [], ◌++◌}
use Prim.Native.Nat.{ℕ, ◌+◌, ◌/◌, ◌<◌}
use native.Mathlib.Nat.{mul-div_cancel}
use native.Mathlib.Omega.{arith}
use lib.ListN.{length, get_or, length-append}
use Rattle.grids.specs.Rows.{row_at}
use Rattle.grids.proofs.Shapes.{each-length}
use Rattle.grids.proofs.Rows.{length-row_at}
use Rattle.pictures.specs.declared.sizes.Kind.{Kind}
use Rattle.pictures.specs.declared.sizes.Size.{Size}
use Rattle.pictures.specs.Refusals.{refusal}
use Rattle.pictures.specs.Pictures.{pixel_bytes, row_bytes, size_rules, row_in, picture, row_of, OfSize}
use Rattle.pictures.proofs.Limits.{sized_is}
use Rattle.pictures.proofs.Buffers.{picture-of_size, picture-row, row_is}
use Rattle.text_theory.specs.Files.{row_lines, row_word, pixel_text, line_text, row_text}
use Rattle.text_theory.specs.Lengths.{total, row_length}
use Rattle.text_theory.proofs.Lengths.{Counted, each-length as each_long, row_length_lem}
use Rattle.text_lengths.specs.Rooms.{pixels_of}
use Rattle.file_theory.proofs.Shapes.{all-each}

counted_long : (k : Kind) (row : List (List ℕ)) → Counted k row → length row_word + length (line_text (pixel_text k) row) ≡ row_length k row
unfolding row_text
counted_long k row c = sym (length-append row_word (line_text (pixel_text k) row)) ∙ row_length_lem k row c

module _ (z : Size) (b : List ℕ) (sized : refusal (size_rules z (length b)) ≡ 0) where
  pub of_size_lem : OfSize z (picture z b)
  of_size_lem = picture-of_size z b (sized_is z (length b) sized).length_is

  -- As many rows as the size says.
  pub rows-many : length (picture z b) ≡ z.height
  rows-many = each-length of_size_lem

  module _ {r : ℕ} (inside : r < z.height) where
    -- The pixels of a row's bytes are that row of the picture.
    pub row-pixels : pixels_of z.kind (row_of z b r) ≡ get_or (picture z b) r []
    row-pixels =
        let s = sized_is z (length b) sized in
        let row : List ℕ = row_at (row_bytes z) r b in
        let long : length (row_at (row_bytes z) r b) ≡ row_bytes z = length-row_at (row_bytes z) z.height b r (omega (arith, s.length_is)) inside in
        let many : length (row_at (row_bytes z) r b) / pixel_bytes z.kind ≡ z.width = ap (◌/ pixel_bytes z.kind) long ∙ mul-div_cancel z.width s.pixel_some in
        ap (pixels_of z.kind) (row_is z b r sized inside) ∙ ap (λ n. row_in z.kind n row) many ∙ sym (picture-row z b r inside)

    -- Its line.
    module _ {row : List ℕ} (is : row ≡ row_of z b r) where
      pub row_line_lem : row_text z.kind (pixels_of z.kind row) ≡ row_word ++ line_text (pixel_text z.kind) (get_or (picture z b) r [])
      unfolding row_text
      row_line_lem = ap (λ x. row_text z.kind (pixels_of z.kind x)) is ∙ ap (row_text z.kind) row-pixels

  -- How long all its lines are.
  pub rows_long : length (row_lines z.kind (picture z b)) ≡ total (row_length z.kind) (picture z b)
  rows_long =
      each_long row_word (line_text (pixel_text z.kind)) (row_length z.kind) (Counted z.kind) (counted_long z.kind) (picture z b)
      (all-each (λ row e. all-each (λ px l. l) e) of_size_lem)
