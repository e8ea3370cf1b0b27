-- The operations on files: what each gives, and what it leaves in the spaces that it was lent.
use Rattle.std.specs.Prelude.{◌≡◌, Result, List, ◌++◌, ℕ, length, drop, replicate}
use Rattle.std.proofs.Math.Option.{none}
use Rattle.grids.specs.Rows.{flat}
use Rattle.pictures.specs.declared.refusals.Refusal.{Refusal}
use Rattle.pictures.specs.declared.sizes.Size.{Size}
use Rattle.pictures.specs.Refusals.{given, refusal, served, worked}
use Rattle.text_theory.specs.declared.Head.{Head}
use Rattle.text_theory.specs.Files.{parse}
use Rattle.file_theory.specs.Rules.{check_rules, read_rules, show_rules}
use Rattle.file_theory.specs.Shows.{bytes_in, head_in, maps_in, shows, drawn_size, drawn_bytes}
use Rattle.file_rules.specs.Answers.{answer_of}

-- The number; size, method and range, or "the number alone"; the work space.
pub record CheckGiven (file work : List ℕ) (answer : Result Head Refusal) (work' : List ℕ) : Type 0 where
  pub number : given answer ≡ refusal (check_rules file (length work))
  pub head : answer_of answer ≡ served (given answer) (head_in (parse file)) none
  pub work_left : work' ≡ worked (given answer) (replicate (length work) 0) work

-- The same, and the picture and the map, each at the front of its space.
pub record ReadGiven (file picture map work : List ℕ) (answer : Result Head Refusal) (picture' map' work' : List ℕ) : Type 0 where
  pub number : given answer ≡ refusal (read_rules file (length picture) (length map) (length work))
  pub head : answer_of answer ≡ served (given answer) (head_in (parse file)) none
  pub picture_given :
      picture' ≡ served (given answer)
      (bytes_in (parse file) ++ drop (length (bytes_in (parse file))) picture)
      picture
  pub map_given :
      map' ≡ served (given answer)
      (flat (maps_in (parse file)) ++ drop (length (flat (maps_in (parse file)))) map)
      map
  pub work_left : work' ≡ worked (given answer) (replicate (length work) 0) work

-- What the file shows at the wanted width, at the front of the output space, and its size.
pub record ShowGiven (file : List ℕ) (wanted : ℕ) (out work : List ℕ) (answer : Result Size Refusal) (out' work' : List ℕ) : Type 0 where
  pub number : given answer ≡ refusal (show_rules file wanted (length out) (length work))
  pub size : answer_of answer ≡ served (given answer) (drawn_size (shows file wanted)) none
  pub out_given :
      out' ≡ served (given answer)
      (drawn_bytes (shows file wanted) ++ drop (length (drawn_bytes (shows file wanted))) out)
      out
  pub work_left : work' ≡ worked (given answer) (replicate (length work) 0) work
