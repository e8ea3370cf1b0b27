-- The numbers in the answers of the operations on seams, and how a removal ends.
use Rattle.std.proofs.Math.Option.{Option, none, some}
use Rattle.std.specs.Prelude.{Result, Ok, Err, ℕ}
use Rattle.pictures.specs.declared.refusals.Refusal.{Refusal}
use Rattle.pictures.specs.Refusals.{given}
use Rattle.seam_rules.specs.declared.answers.Ending.{Ending}
use Rattle.seam_rules.specs.declared.answers.Removal.{Removal}

-- The number that an answer is refused by, 0 where a seam is given; and the seam's cost, or whatever number an answer gives.
abbrev pub found_number : Result ℕ Refusal → ℕ
found_number answer = given answer

abbrev pub found_cost : Result ℕ Refusal → ℕ
found_cost (Ok cost) = cost
found_cost (Err why) = 0

-- How a removal ended; none where it is refused.
abbrev pub removal_ending : Result Removal Refusal → Option Ending
removal_ending (Ok r) = some r.ending
removal_ending (Err why) = none

-- The number that a removal is refused by, 0 where it has ended; and the count of seams cut.
abbrev pub removal_number : Result Removal Refusal → ℕ
removal_number answer = given answer

abbrev pub removal_count : Result Removal Refusal → ℕ
removal_count (Ok r) = r.count
removal_count (Err why) = 0

-- The number that an answer is refused by, 0 where a total is given; and the total.
abbrev pub retargeted_number : Result ℕ Refusal → ℕ
retargeted_number answer = given answer

abbrev pub retargeted_total : Result ℕ Refusal → ℕ
retargeted_total answer = found_cost answer
