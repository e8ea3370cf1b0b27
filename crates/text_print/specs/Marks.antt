-- The bytes between the numbers and the names of a file, and the text of a number that stands as two bytes.
use Rattle.std.specs.Prelude.{List, ℕ, get_or}
use Rattle.pictures.specs.Numbers.{two_bytes}
use Rattle.text_theory.specs.Decimal.{digits}
use Rattle.text_theory.specs.Files.{line_end, blank, opening, closed}
use Rattle.text_print.specs.declared.texts.Mark.{Mark}
use Rattle.text_print.specs.declared.texts.Mark.TheVariants as mark

abbrev pub mark_text : Mark → List ℕ
mark_text mark.Opening = opening
mark_text mark.Blank = blank
mark_text mark.LineEnd = line_end
mark_text mark.Closed = closed

-- The digits of the number of two bytes.
abbrev pub two_bytes_text : List ℕ → List ℕ
two_bytes_text b = digits (two_bytes (get_or b 0 0) (get_or b 1 0))
