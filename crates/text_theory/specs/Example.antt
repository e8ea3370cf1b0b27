-- "The multi-size file", its example: grey rows 10 10 40 and 10 50 40, by each energy rule.
use Rattle.std.specs.Prelude.{List, [], ◌∷◌, ℕ}
use Rattle.grids.specs.Rows.{flat}
use Rattle.pictures.specs.declared.sizes.Kind.TheVariants.{Grey}
use Rattle.energy.specs.declared.methods.EnergyRule.{EnergyRule}
use Rattle.energy.specs.declared.methods.EnergyRule.TheVariants.{Edge, Flat, Forward}
use Rattle.text_theory.specs.Files.{Parts}

-- Its parts by a rule, with two rows of map; and the parts of its file by each rule.
abbrev pub recording : EnergyRule → List ℕ → List ℕ → Parts
recording e x y = record {
  head = record { size = record { width = 3; height = 2; kind = Grey }; method = record { energy = e }; depth = 2; growth = 1 };
  rows = ((10 ∷ []) ∷ (10 ∷ []) ∷ (40 ∷ []) ∷ []) ∷ ((10 ∷ []) ∷ (50 ∷ []) ∷ (40 ∷ []) ∷ []) ∷ [];
  maps = x ∷ y ∷ [];
}

abbrev pub edge_parts : Parts
edge_parts = recording Edge (1 ∷ 0 ∷ 2 ∷ []) (1 ∷ 0 ∷ 2 ∷ [])

abbrev pub flat_parts : Parts
flat_parts = recording Flat (2 ∷ 0 ∷ 1 ∷ []) (0 ∷ 2 ∷ 1 ∷ [])

abbrev pub forward_parts : Parts
forward_parts = recording Forward (1 ∷ 2 ∷ 0 ∷ []) (2 ∷ 1 ∷ 0 ∷ [])

-- Its lines, as bytes.
abbrev pub multi_line : List ℕ
multi_line = 40 ∷ 109 ∷ 117 ∷ 108 ∷ 116 ∷ 105 ∷ 10 ∷ []  -- '(multi'

abbrev pub size_line : List ℕ
size_line = 40 ∷ 115 ∷ 105 ∷ 122 ∷ 101 ∷ 32 ∷ 51 ∷ 32 ∷ 50 ∷ 32 ∷ 103 ∷ 114 ∷ 101 ∷ 121 ∷ 41 ∷ 10 ∷ []  -- '(size 3 2 grey)'

abbrev pub range_line : List ℕ
range_line = 40 ∷ 114 ∷ 97 ∷ 110 ∷ 103 ∷ 101 ∷ 32 ∷ 50 ∷ 32 ∷ 49 ∷ 41 ∷ 10 ∷ []  -- '(range 2 1)'

abbrev pub edge_line : List ℕ
edge_line = 40 ∷ 101 ∷ 110 ∷ 101 ∷ 114 ∷ 103 ∷ 121 ∷ 32 ∷ 101 ∷ 100 ∷ 103 ∷ 101 ∷ 41 ∷ 10 ∷ []  -- '(energy edge)'

abbrev pub flat_line : List ℕ
flat_line = 40 ∷ 101 ∷ 110 ∷ 101 ∷ 114 ∷ 103 ∷ 121 ∷ 32 ∷ 102 ∷ 108 ∷ 97 ∷ 116 ∷ 41 ∷ 10 ∷ []  -- '(energy flat)'

abbrev pub forward_line : List ℕ
forward_line = 40 ∷ 101 ∷ 110 ∷ 101 ∷ 114 ∷ 103 ∷ 121 ∷ 32 ∷ 102 ∷ 111 ∷ 114 ∷ 119 ∷ 97 ∷ 114 ∷ 100 ∷ 41 ∷ 10 ∷ []  -- '(energy forward)'

abbrev pub first_row : List ℕ
first_row = 40 ∷ 114 ∷ 111 ∷ 119 ∷ 32 ∷ 49 ∷ 48 ∷ 32 ∷ 49 ∷ 48 ∷ 32 ∷ 52 ∷ 48 ∷ 41 ∷ 10 ∷ []  -- '(row 10 10 40)'

abbrev pub second_row : List ℕ
second_row = 40 ∷ 114 ∷ 111 ∷ 119 ∷ 32 ∷ 49 ∷ 48 ∷ 32 ∷ 53 ∷ 48 ∷ 32 ∷ 52 ∷ 48 ∷ 41 ∷ 10 ∷ []  -- '(row 10 50 40)'

abbrev pub last_line : List ℕ
last_line = 41 ∷ 10 ∷ []  -- ')'

-- Its map lines: by `edge` one for both rows, by the others one for each.
abbrev pub edge_map : List ℕ
edge_map = 40 ∷ 109 ∷ 97 ∷ 112 ∷ 32 ∷ 49 ∷ 32 ∷ 48 ∷ 32 ∷ 50 ∷ 41 ∷ 10 ∷ []  -- '(map 1 0 2)'

abbrev pub flat_first : List ℕ
flat_first = 40 ∷ 109 ∷ 97 ∷ 112 ∷ 32 ∷ 50 ∷ 32 ∷ 48 ∷ 32 ∷ 49 ∷ 41 ∷ 10 ∷ []  -- '(map 2 0 1)'

abbrev pub flat_second : List ℕ
flat_second = 40 ∷ 109 ∷ 97 ∷ 112 ∷ 32 ∷ 48 ∷ 32 ∷ 50 ∷ 32 ∷ 49 ∷ 41 ∷ 10 ∷ []  -- '(map 0 2 1)'

abbrev pub forward_first : List ℕ
forward_first = 40 ∷ 109 ∷ 97 ∷ 112 ∷ 32 ∷ 49 ∷ 32 ∷ 50 ∷ 32 ∷ 48 ∷ 41 ∷ 10 ∷ []  -- '(map 1 2 0)'

abbrev pub forward_second : List ℕ
forward_second = 40 ∷ 109 ∷ 97 ∷ 112 ∷ 32 ∷ 50 ∷ 32 ∷ 49 ∷ 32 ∷ 48 ∷ 41 ∷ 10 ∷ []  -- '(map 2 1 0)'

-- The file in full: as the specification writes it, with the line of change 102,
abbrev pub flat_text : List ℕ
flat_text = flat (multi_line ∷ size_line ∷ range_line ∷ flat_line ∷ first_row ∷ second_row ∷ flat_first ∷ flat_second ∷ last_line ∷ [])

-- with the map made again by the rule of change 101,
abbrev pub edge_text : List ℕ
edge_text = flat (multi_line ∷ size_line ∷ range_line ∷ edge_line ∷ first_row ∷ second_row ∷ edge_map ∷ edge_map ∷ last_line ∷ [])

-- and by that of change 103.
abbrev pub forward_text : List ℕ
forward_text = flat (multi_line ∷ size_line ∷ range_line ∷ forward_line ∷ first_row ∷ second_row ∷ forward_first ∷ forward_second ∷ last_line ∷ [])
