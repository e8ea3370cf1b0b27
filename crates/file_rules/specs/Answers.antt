-- What the operations on files give besides a number.
use Rattle.std.proofs.Math.Option.{Option, none, some}
use Rattle.std.specs.Prelude.{Result, Ok, Err, ℕ}
use Rattle.pictures.specs.declared.refusals.Refusal.{Refusal}

-- What an answer gives: the head of a file that is accepted, the size of the picture that is shown. None where it is refused.
abbrev pub answer_of : {A : Type 0} → Result A Refusal → Option A
answer_of (Ok x) = some x
answer_of (Err why) = none

-- The length of the file that is built; 0 where it is refused.
abbrev pub built_length : Result ℕ Refusal → ℕ
built_length (Ok n) = n
built_length (Err why) = 0
