-- What the programs refuse for its size, by numbers alone.
use Rattle.std.specs.Prelude.{List, [], ◌∷◌, ◌++◌, ℕ, ltb}
use Rattle.pictures.specs.declared.sizes.Size.{Size}
use Rattle.pictures.specs.Refusals.{Rule, ◌when◌}
use Rattle.pictures.specs.Pictures.{size_rules}
use Rattle.program_theory.specs.Programs.{most_input, pixels_rule}

-- An input of this length: 8 where it is longer than the most.
abbrev pub length_rules : ℕ → List Rule
length_rules bytes = 8 when ltb most_input bytes ∷ []

-- A picture of this size in this many bytes: 2, 3 and 4 as every picture, and 8 where it has more pixels than the most.
abbrev pub held_rules : Size → ℕ → List Rule
held_rules z bytes = size_rules z bytes ++ (pixels_rule z ∷ [])
