-- The operation that builds a file: what it gives.
use Rattle.std.specs.Prelude.{Result, ◌≡◌, List, ◌++◌, ℕ, length, drop, replicate}
use Rattle.pictures.specs.declared.refusals.Refusal.{Refusal}
use Rattle.pictures.specs.Refusals.{given, refusal, served}
use Rattle.pictures.specs.Pictures.{picture}
use Rattle.text_theory.specs.declared.Head.{Head}
use Rattle.file_theory.specs.Contents.{file_of}
use Rattle.file_theory.specs.Rules.{build_rules}
use Rattle.file_rules.specs.Answers.{built_length}

-- The file of the picture in these bytes, with the size, method and range of the head.
abbrev pub file_in : Head → List ℕ → List ℕ
file_in h b = file_of h (picture h.size b)

-- The number; the file's length; the output space, which keeps what stands after the file; and the work space.
pub record BuildGiven (b : List ℕ) (h : Head) (out work : List ℕ) (answer : Result ℕ Refusal) (out' work' : List ℕ) : Type 0 where
  pub number : given answer ≡ refusal (build_rules b h (length out) (length work))
  pub length_is : built_length answer ≡ served (given answer) (length (file_in h b)) 0
  pub out_given : out' ≡ served (given answer) (file_in h b ++ drop (length (file_in h b)) out) out
  pub work_left : work' ≡ served (given answer) (replicate (length work) 0) work
