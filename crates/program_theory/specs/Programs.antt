-- The programs `seams` and `fit`: from the bytes of the input to the bytes of the output.
use Rattle.std.specs.Prelude.{true, not, cond, ℕ, ◌-◌, ◌/◌, leb, ltb, length}
use Rattle.std.proofs.Math.Option.{Option, none, some}
use mathlib.Core.List.{List, [], ◌∷◌, ◌++◌, zip_with}
use Rattle.pictures.specs.Numbers.{largest_number}
use Rattle.pictures.specs.declared.sizes.Size.{Size}
use Rattle.pictures.specs.Refusals.{Rule, ◌when◌, refusal, served}
use Rattle.pictures.specs.Pictures.{Picture, size_rules, picture, pixels}
use Rattle.energy.specs.Methods.{usual_method, wrap_of}
use Rattle.map_theory.specs.Maps.{carve, map_of}
use Rattle.map_theory.specs.Widths.{offered, grow_row}
use Rattle.text_theory.specs.declared.Head.{Head}
use Rattle.text_theory.specs.Readers.{Get, give, ◌▷◌, after}
use Rattle.text_theory.specs.Decimal.{digits, number_get}
use Rattle.text_theory.specs.Files.{line_end, closed, parse}
use Rattle.file_theory.specs.Contents.{choose_of, mean_of, file_of}
use Rattle.file_theory.specs.Rules.{part_rules, judged_rules, form_rules}
use Rattle.file_theory.specs.Shows.{Drawn, sized, shows}
use Rattle.program_theory.specs.Netpbm.{netpbm, header_get}

-- "A program's input over 65,536 bytes is refused by 8 ahead of every other number": this rule stands first, out of the order
-- in which the others ascend.
abbrev pub most_input : ℕ
most_input = 65536

abbrev pub input_rule : List ℕ → Rule
input_rule input = 8 when ltb most_input (length input)

-- "The programs hold 1,024 pixels, read or written."
abbrev pub held_pixels : ℕ
held_pixels = 1024

abbrev pub pixels_rule : Size → Rule
pixels_rule z = 8 when ltb held_pixels (pixels z)

-- They "write a refusal as `(refused 8)` and a line end".
unfoldable pub refused_word : List ℕ
refused_word = 40 ∷ 114 ∷ 101 ∷ 102 ∷ 117 ∷ 115 ∷ 101 ∷ 100 ∷ 32 ∷ []  -- '(refused '

unfoldable pub refused_text : ℕ → List ℕ
refused_text n = refused_word ++ (digits n ++ closed)

-- The answer where nothing is refused, else the refusal.
abbrev pub written : ℕ → List ℕ → List ℕ
written n answer = served n answer (refused_text n)

-- `seams` "reads a Netpbm picture .. and writes the file with k = m−1 and g = m/2 rounded down". Change 102: "`seams` writes `edge`",
-- the usual method.
abbrev pub full_range : Size → Head
full_range z = record { size = z; method = usual_method; depth = z.width - 1; growth = z.width / 2 }

-- What is refused of the size and the samples after it; 1 where there is no header.
abbrev pub picture_rules : Option (Size × List ℕ) → List Rule
picture_rules none = 1 when true ∷ []
picture_rules (some r) = size_rules r.0 (length r.1) ++ (pixels_rule r.0 ∷ [])

-- The file. Without a header there is none, and 1 is written.
abbrev pub file_answer : Option (Size × List ℕ) → List ℕ
file_answer none = []
file_answer (some r) = file_of (full_range r.0) (picture r.0 r.1)

abbrev pub seams_rules : List ℕ → List Rule
seams_rules input = input_rule input ∷ picture_rules (header_get input)

unfoldable pub seams : List ℕ → List ℕ
seams input = written (refusal (seams_rules input)) (file_answer (header_get input))

-- `fit` "reads a line with a width (a number and byte 10), then a file, checks it and writes P5 or P6".
unfoldable pub width_get : Get ℕ
width_get = number_get largest_number ▷ λ v. after line_end (give v)

-- What is refused of a width and a file: what showing refuses, with the 8 of the programs, for the picture read and the
-- picture written, in place of the 8 of its spaces.
abbrev pub fitted_rules : ℕ → List ℕ → List Rule
fitted_rules v file =
    form_rules
    (λ p. part_rules p
    ++ (7 when not (offered p.head.size.width p.head.depth p.head.growth v)
    ∷ pixels_rule p.head.size
    ∷ pixels_rule (sized v p.head.size)
    ∷ judged_rules p))
    (parse file)

-- 1 where there is no width line.
abbrev pub width_rules : Option (ℕ × List ℕ) → List Rule
width_rules none = 1 when true ∷ []
width_rules (some r) = fitted_rules r.0 r.1

-- The picture that the file shows at the width. Where there is none, a refusal is written.
abbrev pub drawn_text : Option Drawn → List ℕ
drawn_text none = []
drawn_text (some d) = netpbm d

abbrev pub picture_answer : Option (ℕ × List ℕ) → List ℕ
picture_answer none = []
picture_answer (some r) = drawn_text (shows r.1 r.0)

abbrev pub fit_rules : List ℕ → List Rule
fit_rules input = input_rule input ∷ width_rules (width_get input)

unfoldable pub fit : List ℕ → List ℕ
fit input = written (refusal (fit_rules input)) (picture_answer (width_get input))

-- For what the two programs give together, the picture carved to a width: at width m − t what t cuts leave, at width m + u the
-- picture with its first u seams doubled.
unfoldable pub carved_rows : ℕ → Size → Picture → Picture
carved_rows v z p =
    cond (leb v z.width)
    (carve (choose_of (full_range z)) (z.width - v) z.width z.height p)
    (zip_with (grow_row (mean_of (full_range z)) (wrap_of usual_method) (v - z.width)) p (map_of (choose_of (full_range z)) (v - z.width) z.width z.height p))

abbrev pub carved : ℕ → Size → Picture → Drawn
carved v z p = record { size = sized v z; rows = carved_rows v z p }
