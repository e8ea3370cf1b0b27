-- "The multi-size file": its parts, the text of the parts, and the reader of a text.
use Rattle.std.specs.Prelude.{◌≡◌, cond, List, [], ◌∷◌, ◌++◌, ℕ, ◌≤◌, eqb, length}
use Rattle.std.proofs.Math.Option.{Option, none, some}
use Rattle.pictures.specs.declared.sizes.Kind.{Kind}
use Rattle.pictures.specs.declared.sizes.Kind.TheVariants.{Grey, Rgb}
use Rattle.pictures.specs.Pictures.{Picture, channels_of, largest_sample}
use Rattle.pictures.specs.Numbers.{largest_number}
use Rattle.pictures.specs.declared.sizes.Size.{Size}
use Rattle.energy.specs.declared.methods.EnergyRule.{EnergyRule}
use Rattle.text_theory.specs.declared.Head.{Head}
use Rattle.text_theory.specs.declared.Name.{Name}
use Rattle.text_theory.specs.declared.Name.TheVariants as name
use Rattle.text_theory.specs.Readers.{Get, give, ◌▷◌, after, many}
use Rattle.text_theory.specs.Decimal.{digits, number_get}
use Rattle.text_theory.specs.Words.{name_text, kind_text, kind_get, rule_text, rule_get}

-- What a file holds: "size: width, height, kind. Range: depth, growth", the energy (change 102), "then n rows of samples and n
-- rows of map." The numbers of rows, of pixels in a row and of numbers in a map row are not judged here.
pub record Parts : Type 0 where
  pub head : Head
  pub rows : Picture
  pub maps : List (List ℕ)

-- The bytes between the numbers: "One blank stands between neighbours, none inside a bracket's edge", each line "ended by
-- byte 10".
unfoldable pub line_end : List ℕ
line_end = 10 ∷ []  -- '\n'

unfoldable pub blank : List ℕ
blank = 32 ∷ []  -- ' '

unfoldable pub opening : List ℕ
opening = 40 ∷ []  -- '('

unfoldable pub closing : List ℕ
closing = 41 ∷ []  -- ')'

unfoldable pub closed : List ℕ
closed = 41 ∷ 10 ∷ []  -- ')\n'

-- How a line begins: the opening bracket and the line's name.
unfoldable pub begun : Name → List ℕ
begun n = opening ++ name_text n

unfoldable pub row_word : List ℕ
row_word = begun name.Row  -- '(row'

unfoldable pub map_word : List ℕ
map_word = begun name.Map  -- '(map'

-- Every value after the bytes w.
unfoldable pub each : {A : Type 0} → List ℕ → (A → List ℕ) → List A → List ℕ
each w put [] = []
each w put (x ∷ xs) = w ++ (put x ++ each w put xs)

-- The first number bare, the others after a blank.
unfoldable pub joined : List ℕ → List ℕ
joined [] = []
joined (a ∷ xs) = digits a ++ each blank digits xs

-- "In `rgb` a pixel is a form: `(row (1 2 3) (4 5 6))`."
unfoldable pub pixel_text : Kind → List ℕ → List ℕ
pixel_text Grey px = joined px
pixel_text Rgb px = opening ++ (joined px ++ closing)

-- The items of a line after its word, and the line's end.
unfoldable pub line_text : {A : Type 0} → (A → List ℕ) → List A → List ℕ
line_text put xs = each blank put xs ++ closed

unfoldable pub row_text : Kind → List (List ℕ) → List ℕ
row_text k row = row_word ++ line_text (pixel_text k) row

unfoldable pub map_text : List ℕ → List ℕ
map_text row = map_word ++ line_text digits row

-- The lines of the head, one after the other: `(multi`, `(size 3 2 grey)`, `(range 2 1)`; and change 102: "After the range line
-- stands `(energy edge)` [..] or `(energy flat)`"; change 103: "the file says `(energy forward)`".
unfoldable pub first_text : List ℕ
first_text = begun name.Multi ++ line_end

unfoldable pub size_text : Size → List ℕ
size_text z =
    begun name.Size ++ (blank ++ (digits z.width ++ (blank ++ (digits z.height ++ (blank ++ (kind_text z.kind ++ closed))))))

unfoldable pub range_text : ℕ → ℕ → List ℕ
range_text d g = begun name.Range ++ (blank ++ (digits d ++ (blank ++ (digits g ++ closed))))

unfoldable pub energy_text : EnergyRule → List ℕ
energy_text e = begun name.Energy ++ (blank ++ (rule_text e ++ closed))

unfoldable pub head_text : Head → List ℕ
head_text h = first_text ++ (size_text h.size ++ (range_text h.depth h.growth ++ energy_text h.method.energy))

-- The row lines of a picture, and the map lines of a map.
abbrev pub row_lines : Kind → Picture → List ℕ
row_lines k rows = each row_word (line_text (pixel_text k)) rows

abbrev pub map_lines : List (List ℕ) → List ℕ
map_lines maps = each map_word (line_text digits) maps

-- "ASCII text in the lines and order shown below, each ended by byte 10, nothing after the last."
unfoldable pub text : Parts → List ℕ
text p = head_text p.head ++ (row_lines p.head.size.kind p.rows ++ (map_lines p.maps ++ closed))

-- Readers of the same. Items, each after a blank, up to the closing bracket.
unfoldable pub items : {A : Type 0} → Get A → Get (List A)
items g = many blank g ▷ λ xs. after closing (give xs)

-- "an `rgb` pixel without exactly three samples is 1"
unfoldable pub three : ℕ → List ℕ → Get (List ℕ)
three a xs = cond (eqb (length xs) 2) (give (a ∷ xs)) (λ s. none)

-- A pixel: a sample, or three samples in brackets.
unfoldable pub pixel_get : Kind → Get (List ℕ)
pixel_get Grey = number_get (largest_sample Grey) ▷ λ a. give (a ∷ [])
pixel_get Rgb = after opening (number_get (largest_sample Rgb) ▷ λ a. items (number_get (largest_sample Rgb)) ▷ λ xs. three a xs)

unfoldable pub line : {A : Type 0} → Get A → Get (List A)
line g = items g ▷ λ xs. after line_end (give xs)

-- The lines of the head.
unfoldable pub size_get : Get Size
size_get =
    after (begun name.Size) (after blank (number_get largest_number ▷ λ w. after blank (number_get largest_number ▷ λ h. after blank (kind_get ▷ λ k.
    after closed (give (record { width = w; height = h; kind = k }))))))

unfoldable pub range_get : Get (ℕ × ℕ)
range_get =
    after (begun name.Range) (after blank (number_get largest_number ▷ λ d. after blank (number_get largest_number ▷ λ g. after closed (give (d, g)))))

unfoldable pub energy_get : Get EnergyRule
energy_get = after (begun name.Energy) (after blank (rule_get ▷ λ e. after closed (give e)))

unfoldable pub head_get : Get Head
head_get =
    after first_text (size_get ▷ λ z. range_get ▷ λ r. energy_get ▷ λ e.
    give (record { size = z; method = record { energy = e }; depth = r.0; growth = r.1 }))

unfoldable pub file : Get Parts
file =
    head_get ▷ λ h.
    many row_word (line (pixel_get h.size.kind)) ▷ λ rows.
    many map_word (line (number_get largest_number)) ▷ λ maps.
    after closed (give (record { head = h; rows = rows; maps = maps }))

-- "nothing after the last"
abbrev pub ended : {A : Type 0} → List ℕ → A → Option A
ended [] a = some a
ended (b ∷ t) a = none

unfoldable pub whole : {A : Type 0} → Option (A × List ℕ) → Option A
whole none = none
whole (some r) = ended r.1 r.0

-- The parts of a text; none where it breaks its form, which is refusal 1: "Anything else is refusal 1, save a wrong count of
-- row lines, map lines, pixels in a row or numbers in a map row".
unfoldable pub parse : List ℕ → Option Parts
parse s = whole (file s)

-- Parts that have a text: "Numbers are 0 to 65535 without leading zeros, samples 0 to 255; pixels have their kind's form."
abbrev pub All : {A : Type 0} → (A → Type 0) → List A → Type 0
All P [] = Unit
All P (x ∷ xs) = P x × All P xs

pub record Pixel (k : Kind) (px : List ℕ) : Type 0 where
  pub count : length px ≡ channels_of k
  pub small : All (λ (a : ℕ). a ≤ largest_sample k) px

pub record Numbers (h : Head) : Type 0 where
  pub width : h.size.width ≤ largest_number
  pub height : h.size.height ≤ largest_number
  pub depth : h.depth ≤ largest_number
  pub growth : h.growth ≤ largest_number

pub record Within (p : Parts) : Type 0 where
  pub head : Numbers p.head
  pub rows : All (All (Pixel p.head.size.kind)) p.rows
  pub maps : All (All (λ (a : ℕ). a ≤ largest_number)) p.maps
