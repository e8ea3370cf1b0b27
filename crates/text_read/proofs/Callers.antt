-- What a caller knows who meets the text of a head or of a line: what is read.
use mathlib.Core.Path.{◌≡◌}
use mathlib.Core.Option.{some}
use mathlib.Core.List.{List, ◌∷◌, ◌++◌, append_assoc}
use Prim.Native.Nat.{ℕ, ◌≤◌}
use Rattle.grids.specs.Rows.{flat}
use Rattle.pictures.specs.declared.sizes.Kind.{Kind}
use Rattle.pictures.specs.Numbers.{largest_number}
use Rattle.text_theory.specs.declared.Head.{Head}
use Rattle.text_theory.specs.Decimal.{digits}
use Rattle.text_theory.specs.Files.{row_word, map_word, each, pixel_text, line_text, row_text, map_text, head_text, head_get, All, Pixel, Numbers}
use Rattle.text_theory.proofs.Pairs.{strip_back}
use Rattle.text_theory.proofs.Decimals.{number_reads}
use Rattle.text_theory.proofs.Files.{line_reads, pixel_reads, head_reads, clear-blank, clear-closing}
use Rattle.text_read.specs.Lines.{row_line, map_line}

-- The text of a line gives its values, the text of a head the head, and what stands after is left.
pub row_line_lem : (k : Kind) (row : List (List ℕ)) (rest : List ℕ) → All (Pixel k) row → row_line k (row_text k row ++ rest) ≡ some (flat row, rest)
unfolding row_line row_text
row_line_lem k row rest h = rw (append_assoc, strip_back, (line_reads (pixel_reads k) clear-blank clear-closing).back row h rest tt)

pub map_line_lem : (row rest : List ℕ) → All (λ (a : ℕ). a ≤ largest_number) row → map_line (map_text row ++ rest) ≡ some (row, rest)
unfolding map_line map_text
map_line_lem row rest h = rw (append_assoc, strip_back) ((line_reads (number_reads largest_number) clear-blank clear-closing).back row h rest tt)

pub head_line : (h : Head) (rest : List ℕ) → Numbers h → head_get (head_text h ++ rest) ≡ some (h, rest)
head_line h rest n = head_reads.back h n rest tt

-- The lines of a file's text, one by one.
pub rows_next : (k : Kind) (row : List (List ℕ)) (rows : List (List (List ℕ))) (t : List ℕ)
    → each row_word (line_text (pixel_text k)) (row ∷ rows) ++ t ≡ row_text k row ++ (each row_word (line_text (pixel_text k)) rows ++ t)
unfolding each row_text
rows_next k row rows t = simp append_assoc

pub maps-next : (row : List ℕ) (maps : List (List ℕ)) (t : List ℕ) → each map_word (line_text digits) (row ∷ maps) ++ t ≡ map_text row ++ (each map_word (line_text digits) maps ++ t)
unfolding each map_text
maps-next row maps t = simp append_assoc
