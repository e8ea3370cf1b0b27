-- What is known of a whole text.
use Rattle.std.specs.Prelude.{Bool, true, ◌&&◌, List, [], ◌∷◌, map, ℕ, eqb, length}
use Rattle.std.specs.Prelude as code
use Rattle.std.proofs.Math.Option.{Option, none, some}
use Rattle.pictures.specs.Refusals.{Rule, ◌when◌}
use Rattle.text_theory.specs.Files.{Parts, parse}
use Rattle.text_read.specs.Numbers.{unread}
use Rattle.text_scan.specs.declared.Facts.{Facts}

-- Whether every count is the width.
unfoldable pub evenly : ℕ → List ℕ → Bool
evenly width [] = true
evenly width (n ∷ ns) = eqb n width && evenly width ns

-- What is known of a file's parts before its numbers are judged: 4 is "a wrong count of row lines, map lines, pixels in a
-- row or numbers in a map row".
unfoldable pub facts_of : Parts → Facts
facts_of p = record {
  head = p.head;
  rows = length p.rows;
  maps = length p.maps;
  full = evenly p.head.size.width (map length p.rows) && evenly p.head.size.width (map length p.maps);
}

abbrev pub facts_in : Option Parts → Option Facts
facts_in none = none
facts_in (some p) = some (facts_of p)

-- The number of an answer: 1, "text .. breaks its form", and 0 where it has it; and the rule that gives it.
abbrev pub scan_number : code.Option Facts → ℕ
scan_number (code.Some f) = 0
scan_number code.None = 1

abbrev pub scan_rules : List ℕ → List Rule
scan_rules text = 1 when unread (parse text) ∷ []
