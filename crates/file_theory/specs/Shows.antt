-- The words of demand 3: accepted, offers, shows.
use Rattle.std.specs.Prelude.{◌≡◌, Bool, false, List, [], ℕ, length}
use Rattle.std.proofs.Math.Option.{Option, none, some}
use Rattle.pictures.specs.declared.sizes.Size.{Size}
use Rattle.pictures.specs.Refusals.{refusal}
use Rattle.pictures.specs.Pictures.{Picture, bytes}
use Rattle.energy.specs.Methods.{wrap_of}
use Rattle.map_theory.specs.Widths.{offered, shown}
use Rattle.text_theory.specs.declared.Head.{Head}
use Rattle.text_theory.specs.Words.{rule_text}
use Rattle.text_theory.specs.Files.{Parts, parse}
use Rattle.file_theory.specs.Contents.{mean_of}
use Rattle.file_theory.specs.Rules.{check_rules}

-- "a file is any list of bytes, and it is accepted when checking accepts it in every work space that 8 doesn't refuse"
abbrev pub Accepted : List ℕ → Type 0
Accepted file = (work : List ℕ) → (refusal (check_rules file (length work)) ≡ 8 → ⊥) → refusal (check_rules file (length work)) ≡ 0

-- "It offers the widths m−k to m+g and no others."
abbrev pub offers_in : Option Parts → ℕ → Bool
offers_in none v = false
offers_in (some p) v = offered p.head.size.width p.head.depth p.head.growth v

unfoldable pub offers : List ℕ → ℕ → Bool
offers file v = offers_in (parse file) v

-- A picture of its kind: "Two pictures are the same when kind, width, height and every sample agree."
pub record Drawn : Type 0 where
  pub size : Size
  pub rows : Picture

abbrev pub sized : ℕ → Size → Size
sized v z = record { width = v; height = z.height; kind = z.kind }

-- "What it shows at one of them is the picture of its kind that 'The map and the widths' defines."
abbrev pub shows_in : Option Parts → ℕ → Option Drawn
shows_in none v = none
shows_in (some p) v = some (record { size = sized v p.head.size; rows = shown (mean_of p.head) (wrap_of p.head.method) p.head.size.width v p.rows p.maps })

unfoldable pub shows : List ℕ → ℕ → Option Drawn
shows file v = shows_in (parse file) v

-- Its head, original width and energy word, and its picture, the picture's bytes and its map as they stand in it.
abbrev pub head_in : Option Parts → Option Head
head_in none = none
head_in (some p) = some p.head

abbrev pub original_in : Option Parts → ℕ
original_in none = 0
original_in (some p) = p.head.size.width

unfoldable pub original : List ℕ → ℕ
original file = original_in (parse file)

abbrev pub energy_word_in : Option Parts → List ℕ
energy_word_in none = []
energy_word_in (some p) = rule_text p.head.method.energy

unfoldable pub energy_word : List ℕ → List ℕ
energy_word file = energy_word_in (parse file)

abbrev pub rows_in : Option Parts → Picture
rows_in none = []
rows_in (some p) = p.rows

abbrev pub bytes_in : Option Parts → List ℕ
bytes_in none = []
bytes_in (some p) = bytes p.head.size.kind p.rows

abbrev pub maps_in : Option Parts → List (List ℕ)
maps_in none = []
maps_in (some p) = p.maps

-- The size and the bytes of what is shown.
abbrev pub drawn_size : Option Drawn → Option Size
drawn_size none = none
drawn_size (some d) = some d.size

abbrev pub drawn_bytes : Option Drawn → List ℕ
drawn_bytes none = []
drawn_bytes (some d) = bytes d.size.kind d.rows
