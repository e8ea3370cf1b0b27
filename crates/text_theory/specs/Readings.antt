-- Texts on both sides of the form, by their lines, and what is read of each.
use Rattle.std.specs.Prelude.{List, [], ◌∷◌, ℕ}
use Rattle.std.proofs.Math.Option.{Option, none, some}
use Rattle.pictures.specs.declared.sizes.Kind.TheVariants.{Rgb}
use Rattle.pictures.specs.Numbers.{largest_number}
use Rattle.energy.specs.declared.methods.EnergyRule.TheVariants.{Flat}
use Rattle.text_theory.specs.Files.{Parts}
use Rattle.text_theory.specs.Example.{edge_parts, edge_text, flat_parts, flat_text, forward_parts, forward_text, multi_line, size_line, range_line, edge_line, flat_line, forward_line, last_line}

-- Lines besides those of the example, as bytes.
abbrev pub rgb_line : List ℕ
rgb_line = 40 ∷ 115 ∷ 105 ∷ 122 ∷ 101 ∷ 32 ∷ 50 ∷ 32 ∷ 49 ∷ 32 ∷ 114 ∷ 103 ∷ 98 ∷ 41 ∷ 10 ∷ []  -- '(size 2 1 rgb)'

abbrev pub no_range : List ℕ
no_range = 40 ∷ 114 ∷ 97 ∷ 110 ∷ 103 ∷ 101 ∷ 32 ∷ 48 ∷ 32 ∷ 48 ∷ 41 ∷ 10 ∷ []  -- '(range 0 0)'

abbrev pub rgb_row : List ℕ
rgb_row = 40 ∷ 114 ∷ 111 ∷ 119 ∷ 32 ∷ 40 ∷ 49 ∷ 32 ∷ 50 ∷ 32 ∷ 51 ∷ 41 ∷ 32 ∷ 40 ∷ 52 ∷ 32 ∷ 53 ∷ 32 ∷ 50 ∷ 53 ∷ 53 ∷ 41 ∷ 41 ∷ 10 ∷ []  -- '(row (1 2 3) (4 5 255))'

abbrev pub long_map : List ℕ
long_map = 40 ∷ 109 ∷ 97 ∷ 112 ∷ 32 ∷ 48 ∷ 32 ∷ 54 ∷ 53 ∷ 53 ∷ 51 ∷ 53 ∷ 41 ∷ 10 ∷ []  -- '(map 0 65535)'

abbrev pub bare_row : List ℕ
bare_row = 40 ∷ 114 ∷ 111 ∷ 119 ∷ 41 ∷ 10 ∷ []  -- '(row)'

abbrev pub bare_map : List ℕ
bare_map = 40 ∷ 109 ∷ 97 ∷ 112 ∷ 41 ∷ 10 ∷ []  -- '(map)'

abbrev pub zero_ahead : List ℕ
zero_ahead = 40 ∷ 115 ∷ 105 ∷ 122 ∷ 101 ∷ 32 ∷ 48 ∷ 51 ∷ 32 ∷ 50 ∷ 32 ∷ 103 ∷ 114 ∷ 101 ∷ 121 ∷ 41 ∷ 10 ∷ []  -- '(size 03 2 grey)'

abbrev pub empty_row : List ℕ
empty_row = 40 ∷ 114 ∷ 111 ∷ 119 ∷ 32 ∷ 41 ∷ 10 ∷ []  -- '(row )'

abbrev pub two_samples : List ℕ
two_samples = 40 ∷ 114 ∷ 111 ∷ 119 ∷ 32 ∷ 40 ∷ 49 ∷ 32 ∷ 50 ∷ 41 ∷ 32 ∷ 40 ∷ 52 ∷ 32 ∷ 53 ∷ 32 ∷ 54 ∷ 41 ∷ 41 ∷ 10 ∷ []  -- '(row (1 2) (4 5 6))'

abbrev pub over : List ℕ
over = 40 ∷ 114 ∷ 111 ∷ 119 ∷ 32 ∷ 50 ∷ 53 ∷ 54 ∷ 41 ∷ 10 ∷ []  -- '(row 256)'

abbrev pub long_range : List ℕ
long_range = 40 ∷ 114 ∷ 97 ∷ 110 ∷ 103 ∷ 101 ∷ 32 ∷ 50 ∷ 32 ∷ 54 ∷ 53 ∷ 53 ∷ 51 ∷ 54 ∷ 41 ∷ 10 ∷ []  -- '(range 2 65536)'

abbrev pub other_word : List ℕ
other_word = 40 ∷ 101 ∷ 110 ∷ 101 ∷ 114 ∷ 103 ∷ 121 ∷ 32 ∷ 103 ∷ 114 ∷ 101 ∷ 121 ∷ 41 ∷ 10 ∷ []  -- '(energy grey)'

abbrev pub word_begun : List ℕ
word_begun = 40 ∷ 101 ∷ 110 ∷ 101 ∷ 114 ∷ 103 ∷ 121 ∷ 32 ∷ 102 ∷ 111 ∷ 114 ∷ 41 ∷ 10 ∷ []  -- '(energy for)'

abbrev pub word_on : List ℕ
word_on = 40 ∷ 101 ∷ 110 ∷ 101 ∷ 114 ∷ 103 ∷ 121 ∷ 32 ∷ 102 ∷ 111 ∷ 114 ∷ 119 ∷ 97 ∷ 114 ∷ 100 ∷ 115 ∷ 41 ∷ 10 ∷ []  -- '(energy forwards)'

abbrev pub no_word : List ℕ
no_word = 40 ∷ 101 ∷ 110 ∷ 101 ∷ 114 ∷ 103 ∷ 121 ∷ 41 ∷ 10 ∷ []  -- '(energy)'

-- An rgb file.
abbrev pub coloured : Parts
coloured = record {
  head = record { size = record { width = 2; height = 1; kind = Rgb }; method = record { energy = Flat }; depth = 0; growth = 0 };
  rows = ((1 ∷ 2 ∷ 3 ∷ []) ∷ (4 ∷ 5 ∷ 255 ∷ []) ∷ []) ∷ [];
  maps = (0 ∷ largest_number ∷ []) ∷ [];
}

-- Texts by their lines, and what is read of each: its parts, or none where the form is broken.
abbrev pub readings : List (List (List ℕ) × Option Parts)
readings =
    -- the example's file by each rule
    (edge_text ∷ [], some edge_parts)
    ∷ (flat_text ∷ [], some flat_parts)
    ∷ (forward_text ∷ [], some forward_parts)
    -- the largest sample and the largest number
    ∷ (multi_line ∷ rgb_line ∷ no_range ∷ flat_line ∷ rgb_row ∷ long_map ∷ last_line ∷ [], some coloured)
    -- lines without items: their counts are judged later
    ∷ (multi_line ∷ size_line ∷ range_line ∷ edge_line ∷ bare_row ∷ bare_map ∷ last_line ∷ [], some (record { head = edge_parts.head; rows = [] ∷ []; maps = [] ∷ [] }))
    -- a leading zero
    ∷ (multi_line ∷ zero_ahead ∷ range_line ∷ edge_line ∷ last_line ∷ [], none)
    -- `(row )`
    ∷ (multi_line ∷ size_line ∷ range_line ∷ edge_line ∷ empty_row ∷ last_line ∷ [], none)
    -- an rgb pixel of two samples
    ∷ (multi_line ∷ rgb_line ∷ no_range ∷ edge_line ∷ two_samples ∷ last_line ∷ [], none)
    -- sample 256
    ∷ (multi_line ∷ size_line ∷ range_line ∷ edge_line ∷ over ∷ last_line ∷ [], none)
    -- number 65536
    ∷ (multi_line ∷ size_line ∷ long_range ∷ edge_line ∷ last_line ∷ [], none)
    -- a byte after the last line
    ∷ (multi_line ∷ size_line ∷ range_line ∷ edge_line ∷ last_line ∷ (32 ∷ []) ∷ [], none)
    -- a last line without its end
    ∷ (multi_line ∷ size_line ∷ range_line ∷ edge_line ∷ (41 ∷ []) ∷ [], none)
    -- a row line after a map line
    ∷ (multi_line ∷ size_line ∷ range_line ∷ edge_line ∷ bare_map ∷ bare_row ∷ last_line ∷ [], none)
    -- "A file without the line is text that breaks its form"
    ∷ (multi_line ∷ size_line ∷ range_line ∷ bare_row ∷ bare_map ∷ last_line ∷ [], none)
    -- the energy before the range, after the rows, twice
    ∷ (multi_line ∷ size_line ∷ edge_line ∷ range_line ∷ bare_row ∷ bare_map ∷ last_line ∷ [], none)
    ∷ (multi_line ∷ size_line ∷ range_line ∷ bare_row ∷ edge_line ∷ bare_map ∷ last_line ∷ [], none)
    ∷ (multi_line ∷ size_line ∷ range_line ∷ edge_line ∷ flat_line ∷ bare_row ∷ bare_map ∷ last_line ∷ [], none)
    ∷ (multi_line ∷ size_line ∷ range_line ∷ forward_line ∷ forward_line ∷ bare_row ∷ bare_map ∷ last_line ∷ [], none)
    -- a word that names no energy, one cut short, one that goes on, and no word
    ∷ (multi_line ∷ size_line ∷ range_line ∷ other_word ∷ bare_row ∷ bare_map ∷ last_line ∷ [], none)
    ∷ (multi_line ∷ size_line ∷ range_line ∷ word_begun ∷ bare_row ∷ bare_map ∷ last_line ∷ [], none)
    ∷ (multi_line ∷ size_line ∷ range_line ∷ word_on ∷ bare_row ∷ bare_map ∷ last_line ∷ [], none)
    ∷ (multi_line ∷ size_line ∷ range_line ∷ no_word ∷ bare_row ∷ bare_map ∷ last_line ∷ [], none)
    ∷ []
