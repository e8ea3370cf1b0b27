-- Worked texts, computed: the example of "The multi-size file", and texts on both sides of the form.
use mathlib.Core.Path.{◌≡◌, refl}
use mathlib.Core.List.{[], ◌∷◌, map}
use Rattle.grids.specs.Rows.{flat}
use Rattle.text_theory.specs.Readers.{strip, next, many_up_to, many}
use Rattle.text_theory.specs.Decimal.{digits_up_to, digits, is_digit, further, up_to, number_get}
use Rattle.text_theory.specs.Words.{one_of, name_get, kind_text, kind_get, rule_text, rule_get}
use Rattle.text_theory.specs.Example.{edge_parts, edge_text, flat_parts, flat_text, forward_parts, forward_text}
use Rattle.text_theory.specs.Readings.{readings}
use Rattle.text_theory.specs.Files.{line_end, blank, opening, closing, closed, begun, row_word, map_word, each, joined, pixel_text, line_text, first_text, size_text, range_text, energy_text, head_text, text, items, three, pixel_get, line, size_get, range_get, energy_get, head_get, file, whole, parse}

-- The example's file by each rule, as it is printed.
pub printed : map text (edge_parts ∷ flat_parts ∷ forward_parts ∷ []) ≡ edge_text ∷ flat_text ∷ forward_text ∷ []
unfolding digits_up_to digits line_end blank opening closing closed begun row_word map_word kind_text rule_text each joined pixel_text line_text first_text size_text range_text energy_text head_text text
printed = refl

-- What is read of the texts.
pub read_so : map (λ r. parse (flat r.0)) readings ≡ map (λ r. r.1) readings
unfolding strip next many_up_to many is_digit further up_to number_get line_end blank opening closing closed begun row_word map_word one_of name_get kind_get rule_get first_text items three pixel_get line size_get range_get energy_get head_get file whole parse
read_so = refl
