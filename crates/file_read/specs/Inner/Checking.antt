-- Its map judged. What private functions ask and promise; no public promise cites it.
use Rattle.std.specs.Prelude.{◌≡◌, Result, List, [], ℕ, length, replicate}
use Rattle.std.proofs.Math.Option.{Option, none, some}
use Rattle.pictures.specs.declared.refusals.Refusal.{Refusal}
use Rattle.pictures.specs.Refusals.{Rule, given, refusal}
use Rattle.text_theory.specs.Files.{Parts, parse}
use Rattle.file_theory.specs.Rules.{judged_rules}

-- What 9, 10 and 11 say of a file.
abbrev pub judged_in : Option Parts → List Rule
judged_in none = []
judged_in (some p) = judged_rules p

-- Which of 9, 10 and 11 is given, and the work space.
pub record MapJudged (file work : List ℕ) (answer : Result (Unit {0}) Refusal) (work' : List ℕ) : Type 0 where
  pub number : given answer ≡ refusal (judged_in (parse file))
  pub work_left : work' ≡ replicate (length work) 0
