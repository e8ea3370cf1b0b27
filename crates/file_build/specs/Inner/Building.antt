-- A file built where nothing is refused. What private functions ask and promise; no public promise cites it.
use Rattle.std.specs.Prelude.{◌≡◌, Result, Ok, Err, List, ◌++◌, ℕ, length, drop, replicate}
use Rattle.pictures.specs.declared.refusals.Refusal.{Refusal}
use Rattle.pictures.specs.Refusals.{given, refusal}
use Rattle.text_theory.specs.declared.Head.{Head}
use Rattle.file_theory.specs.Rules.{build_rules}
use Rattle.file_build.specs.declared.source.Source.{Source}
use Rattle.file_build.specs.Building.{file_in}

-- What a source is taken from, if nothing is refused.
abbrev pub SourceOf : List ℕ → Head → Result Source Refusal → Type 0
SourceOf b h (Ok s) = (s.picture.now ≡ b) × (s.head ≡ h)
SourceOf b h (Err why) = Unit {0}

-- The number, and the source.
pub record Judged (b : List ℕ) (h : Head) (out work : ℕ) (answer : Result Source Refusal) : Type 0 where
  pub number : given answer ≡ refusal (build_rules b h out work)
  pub source : SourceOf b h answer

-- Nothing is refused.
pub record BuildNeeded (b : List ℕ) (h : Head) (out work : List ℕ) : Type 0 where
  pub served : refusal (build_rules b h (length out) (length work)) ≡ 0

-- The file, its length, and the work space cleared.
pub record FileGiven (b : List ℕ) (h : Head) (out work : List ℕ) (n : ℕ) (out' work' : List ℕ) : Type 0 where
  pub length_is : n ≡ length (file_in h b)
  pub out_is : out' ≡ file_in h b ++ drop (length (file_in h b)) out
  pub work_is : work' ≡ replicate (length work) 0
