-- How a removal ended, as numbers.
use Rattle.std.proofs.Math.Option.{Option, none, some}
use Rattle.std.specs.Prelude.{Result, ℕ}
use Rattle.pictures.specs.declared.refusals.Refusal.{Refusal}
use Rattle.seam_rules.specs.declared.answers.Removal.{Removal}
use Rattle.seam_rules.specs.declared.answers.Ending.{Ending}
use Rattle.seam_rules.specs.declared.answers.Ending.TheVariants.{Done, Narrow, Spent, Blocked}
use Rattle.seam_rules.specs.Answers.{removal_number, removal_ending, removal_count}
use Rattle.export_answers.specs.declared.objects.Ended.{Ended}

-- The number of an ending; 0 where there is none.
abbrev pub ending_number : Ending → ℕ
ending_number Done = 1
ending_number Narrow = 2
ending_number Spent = 3
ending_number Blocked = 4

abbrev pub some_number : Option Ending → ℕ
some_number none = 0
some_number (some e) = ending_number e

-- The answer as three numbers.
abbrev pub ended_of : Result Removal Refusal → Ended
ended_of r = record { number = removal_number r; ending = some_number (removal_ending r); count = removal_count r }
