-- Answers with one value.
use Rattle.std.specs.Prelude.{Result, List, [], ◌∷◌, ℕ, ltb}
use Rattle.pictures.specs.declared.refusals.Refusal.{Refusal}
use Rattle.pictures.specs.Refusals.{Rule, ◌when◌, given}
use Rattle.seam_rules.specs.Answers.{found_cost}
use Rattle.export_answers.specs.declared.answers.Answer.{Answer}

-- A row is refused by 8 where the space is shorter.
abbrev pub row_rules : ℕ → ℕ → List Rule
row_rules row space = 8 when ltb space row ∷ []

-- A seam found, a total, or a length, as two numbers: the one that it is refused by, and the value.
abbrev pub reply_of : Result ℕ Refusal → Answer
reply_of answer = record { number = given answer; value = found_cost answer }
