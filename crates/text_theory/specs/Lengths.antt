-- The length of a text, from its sizes, samples and numbers.
use Rattle.std.specs.Prelude.{List, [], ◌∷◌, ℕ, suc, ◌+◌, length}
use Rattle.pictures.specs.declared.sizes.Kind.{Kind}
use Rattle.pictures.specs.declared.sizes.Kind.TheVariants.{Grey, Rgb}
use Rattle.pictures.specs.declared.sizes.Size.{Size}
use Rattle.energy.specs.declared.methods.EnergyRule.{EnergyRule}
use Rattle.text_theory.specs.declared.Head.{Head}
use Rattle.text_theory.specs.declared.Name.{Name}
use Rattle.text_theory.specs.declared.Name.TheVariants as name
use Rattle.text_theory.specs.Decimal.{digits}
use Rattle.text_theory.specs.Words.{name_text, kind_text, rule_text}
use Rattle.text_theory.specs.Files.{Parts}

-- The values of f over a list, added.
unfoldable pub total : {A : Type 0} → (A → ℕ) → List A → ℕ
total f [] = 0
total f (x ∷ xs) = f x + total f xs

-- A number with the blank before it.
unfoldable pub spaced : ℕ → ℕ
spaced n = suc (length (digits n))

-- A pixel's brackets.
abbrev pub brackets : Kind → ℕ
brackets Grey = 0
brackets Rgb = 2

-- A pixel with the blank before it; a row line; a map line.
unfoldable pub pixel_length : Kind → List ℕ → ℕ
pixel_length k px = total spaced px + brackets k

unfoldable pub row_length : Kind → List (List ℕ) → ℕ
row_length k row = total (pixel_length k) row + 6

unfoldable pub map_length : List ℕ → ℕ
map_length row = total spaced row + 6

-- How a line begins; the lines of the head.
unfoldable pub begun_length : Name → ℕ
begun_length n = suc (length (name_text n))

unfoldable pub size_length : Size → ℕ
size_length z = begun_length name.Size + (spaced z.width + spaced z.height) + suc (length (kind_text z.kind)) + 2

unfoldable pub range_length : ℕ → ℕ → ℕ
range_length d g = begun_length name.Range + (spaced d + spaced g) + 2

unfoldable pub energy_length : EnergyRule → ℕ
energy_length e = begun_length name.Energy + suc (length (rule_text e)) + 2

unfoldable pub head_length : Head → ℕ
head_length h =
    begun_length name.Multi + 1 + size_length h.size + range_length h.depth h.growth + energy_length h.method.energy

-- The whole text.
unfoldable pub text_length : Parts → ℕ
text_length p = head_length p.head + total (row_length p.head.size.kind) p.rows + total map_length p.maps + 2
