-- What the private functions of the programs promise. No public promise cites it.
use Rattle.std.specs.Prelude.{◌≡◌, Result, List, ◌++◌, ℕ, length, drop}
use Rattle.pictures.specs.declared.refusals.Refusal.{Refusal}
use Rattle.pictures.specs.Refusals.{Rule, refusal, served}
use Rattle.program_netpbm.specs.Outputs.{output_number, output_length}

-- An answer at the front of a space, or the number that it is refused by.
pub record Answered (rules : List Rule) (answer out : List ℕ) (o : Result ℕ Refusal) (out' : List ℕ) : Type 0 where
  pub number : output_number o ≡ refusal rules
  pub length_is : output_length o ≡ served (output_number o) (length answer) 0
  pub out_given : out' ≡ served (output_number o) (answer ++ drop (length answer) out) out
