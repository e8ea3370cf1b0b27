-- "When it says no", for files: of each operation, the lines of the table that apply to it.
use Rattle.std.specs.Prelude.{Bool, true, not, ◌&&◌, List, [], ◌∷◌, ◌++◌, ℕ, ◌*◌, eqb, ltb, length}
use Rattle.std.proofs.Math.Option.{Option, none, some}
use Rattle.pictures.specs.declared.sizes.Size.{Size}
use Rattle.pictures.specs.Refusals.{◌when◌, Rule}
use Rattle.pictures.specs.Pictures.{pixel_bytes, side_rules, size_rules, picture_bytes, picture, pixels, work_bytes}
use Rattle.map_theory.specs.Widths.{allowed, offered}
use Rattle.map_theory.specs.Judged.{every, map_rules}
use Rattle.text_theory.specs.declared.Head.{Head}
use Rattle.text_theory.specs.Files.{Parts, parse}
use Rattle.file_theory.specs.Contents.{choose_of, near_of, file_of}

-- h rows of w items each.
unfoldable pub filled : {A : Type 0} → ℕ → ℕ → List (List A) → Bool
filled w h rows = eqb (length rows) h && every (λ xs. eqb (length xs) w) rows

-- 2 and 3 of its size; 4: "the number of rows, samples or map numbers, isn't what the size says"; 6: "depth or growth not
-- allowed".
abbrev pub part_rules : Parts → List Rule
part_rules p =
    side_rules p.head.size
    ++ (4 when not (filled p.head.size.width p.head.size.height p.rows && filled p.head.size.width p.head.size.height p.maps)
    ∷ 6 when not (allowed p.head.size.width p.head.depth p.head.growth)
    ∷ [])

-- 9, 10 and 11: the map is judged, seam by seam, by the seam found.
abbrev pub judged_rules : Parts → List Rule
judged_rules p = map_rules (near_of p.head) (choose_of p.head) p.head.size.width p.head.size.height p.head.depth p.rows p.maps

-- 1: the text breaks its form; else what is said of its parts.
abbrev pub form_rules : (Parts → List Rule) → Option Parts → List Rule
form_rules rules none = 1 when true ∷ []
form_rules rules (some p) = rules p

-- 8: "work space under 32 bytes a pixel".
abbrev pub work_rule : Size → ℕ → Rule
work_rule z work = 8 when ltb work (work_bytes z)

-- Checking, in a work space of `work` bytes.
abbrev pub check_rules : List ℕ → ℕ → List Rule
check_rules file work = form_rules (λ p. part_rules p ++ (work_rule p.head.size work ∷ judged_rules p)) (parse file)

-- Reading, into a picture space and a map space: "output space shorter than the answer".
abbrev pub read_rules : List ℕ → ℕ → ℕ → ℕ → List Rule
read_rules file picture map work =
    form_rules
    (λ p. part_rules p ++ (8 when ltb picture (picture_bytes p.head.size) ∷ 8 when ltb map (pixels p.head.size) ∷ work_rule p.head.size work ∷ judged_rules p))
    (parse file)

-- Showing the wanted width v, into an output space. 7: "wanted width not offered".
abbrev pub show_rules : List ℕ → ℕ → ℕ → ℕ → List Rule
show_rules file v out work =
    form_rules
    (λ p. part_rules p
    ++ (7 when not (offered p.head.size.width p.head.depth p.head.growth v)
    ∷ 8 when ltb out (p.head.size.height * (v * pixel_bytes p.head.size.kind))
    ∷ work_rule p.head.size work
    ∷ judged_rules p))
    (parse file)

-- Building from a picture's bytes.
abbrev pub build_rules : List ℕ → Head → ℕ → ℕ → List Rule
build_rules b h out work =
    size_rules h.size (length b)
    ++ (6 when not (allowed h.size.width h.depth h.growth)
    ∷ 8 when ltb out (length (file_of h (picture h.size b)))
    ∷ work_rule h.size work
    ∷ [])
