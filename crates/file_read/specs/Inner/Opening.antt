-- A file opened. What private functions ask and promise; no public promise cites it.
use Rattle.std.specs.Prelude.{◌≡◌, List, ◌++◌, ℕ, drop}
use Rattle.std.proofs.Math.Option.{Option, some}
use Rattle.pictures.specs.declared.sizes.Kind.{Kind}
use Rattle.pictures.specs.Refusals.{refusal}
use Rattle.text_theory.specs.declared.Head.{Head}
use Rattle.text_theory.specs.Files.{Parts, parse, row_lines, map_lines, closed}
use Rattle.file_theory.specs.Rules.{part_rules, form_rules}
use Rattle.file_theory.specs.Shows.{head_in, rows_in, maps_in}

-- A file that 1 to 6 don't refuse, of this head.
pub record Open (file : List ℕ) (h : Head) : Type 0 where
  pub sound : refusal (form_rules part_rules (parse file)) ≡ 0
  pub head_is : head_in (parse file) ≡ some h

-- What stands in its text from map line r on, and from row line r on.
abbrev pub maps_from : Option Parts → ℕ → List ℕ
maps_from o r = map_lines (drop r (maps_in o)) ++ closed

abbrev pub rows_from : Kind → Option Parts → ℕ → List ℕ
rows_from k o r = row_lines k (drop r (rows_in o)) ++ maps_from o 0
