-- When operations on files are refused, as far as size, range and the lengths of the lent spaces say it.
use Rattle.std.specs.Prelude.{not, List, [], ◌∷◌, ◌++◌, ℕ, ◌*◌, ltb}
use Rattle.pictures.specs.declared.sizes.Size.{Size}
use Rattle.pictures.specs.Refusals.{Rule, ◌when◌}
use Rattle.pictures.specs.Pictures.{pixel_bytes, side_rules, size_rules, picture_bytes, pixels}
use Rattle.map_theory.specs.Widths.{allowed, offered}
use Rattle.text_theory.specs.declared.Head.{Head}
use Rattle.file_theory.specs.Rules.{work_rule}

-- What 8 says of the work space for checking, after 2 and 3.
abbrev pub work_rules : Size → ℕ → List Rule
work_rules z work = side_rules z ++ (work_rule z work ∷ [])

-- What 8 says of the spaces for reading; and after 2 and 3.
abbrev pub space_rules : Size → ℕ → ℕ → ℕ → List Rule
space_rules z picture map work = 8 when ltb picture (picture_bytes z) ∷ 8 when ltb map (pixels z) ∷ work_rule z work ∷ []

abbrev pub read_space_rules : Size → ℕ → ℕ → ℕ → List Rule
read_space_rules z picture map work = side_rules z ++ space_rules z picture map work

-- What 7 and 8 say of a wanted width; and after 2, 3 and 6.
abbrev pub offer_rules : Head → ℕ → ℕ → ℕ → List Rule
offer_rules h v out work =
    7 when not (offered h.size.width h.depth h.growth v)
    ∷ 8 when ltb out (h.size.height * (v * pixel_bytes h.size.kind))
    ∷ work_rule h.size work
    ∷ []

abbrev pub wanted_rules : Head → ℕ → ℕ → ℕ → List Rule
wanted_rules h v out work = side_rules h.size ++ (6 when not (allowed h.size.width h.depth h.growth) ∷ offer_rules h v out work)

-- What is said of a picture's bytes, a range and the work space for building.
abbrev pub build_space_rules : Head → ℕ → ℕ → List Rule
build_space_rules h bytes work =
    size_rules h.size bytes ++ (6 when not (allowed h.size.width h.depth h.growth) ∷ work_rule h.size work ∷ [])
