-- What stands in a program's output.
use Rattle.std.specs.Prelude.{◌≡◌, Result, Ok, Err, List, ◌++◌, ℕ, ◌≤◌, length, drop}
use Rattle.pictures.specs.declared.refusals.Refusal.{Refusal}
use Rattle.pictures.specs.Refusals.{given, served}
use Rattle.program_theory.specs.Programs.{refused_text}

-- The bytes of the space that a program's output is lent: enough for every output.
abbrev pub output_space : ℕ
output_space = 32768

-- The number that an output is refused by, 0 where a length is given; and the length.
abbrev pub output_number : Result ℕ Refusal → ℕ
output_number = given

abbrev pub output_length : Result ℕ Refusal → ℕ
output_length (Ok n) = n
output_length (Err why) = 0

-- The answer left as it stands, or the refusal in its place.
pub record Finished (o : Result ℕ Refusal) (out : List ℕ) (n : ℕ) (out' : List ℕ) : Type 0 where
  pub length_is : n ≡ served (output_number o) (output_length o) (length (refused_text (output_number o)))
  pub out_is :
      out' ≡ served (output_number o) out
      (refused_text (output_number o) ++ drop (length (refused_text (output_number o))) out)

-- The output at the front of the space, which keeps what stands after it, and its length. So it is no longer than the space.
pub record Wrote (output out : List ℕ) (n : ℕ) (out' : List ℕ) : Type 0 where
  pub length_is : n ≡ length output
  pub out_is : out' ≡ output ++ drop (length output) out
  pub fits : n ≤ length out'
