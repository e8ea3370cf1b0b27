-- What hosts see of multi-size files.
use Rattle.std.specs.Prelude.{◌≡◌, false, List, ◌++◌, ℕ, length, drop, replicate}
use Rattle.std.proofs.Math.Option.{none}
use Rattle.grids.specs.Rows.{flat}
use Rattle.pictures.specs.Refusals.{refusal, served, worked}
use Rattle.map_show.specs.Showing.{row_shown, row_at_rules}
use Rattle.text_theory.specs.Files.{parse}
use Rattle.file_theory.specs.Rules.{check_rules, read_rules, show_rules, build_rules}
use Rattle.file_theory.specs.Shows.{bytes_in, head_in, maps_in, shows, drawn_size, drawn_bytes}
use Rattle.file_build.specs.Building.{file_in}
use Rattle.export_answers.specs.declared.answers.Answer.{Answer}
use Rattle.export_answers.specs.declared.names.HostSize.{HostSize}
use Rattle.export_answers.specs.declared.names.HostMethod.{HostMethod}
use Rattle.export_answers.specs.declared.files.FileAnswer.{FileAnswer}
use Rattle.export_answers.specs.declared.files.SizeAnswer.{SizeAnswer}
use Rattle.export_answers.specs.Named.{sizing_of, carving_of, known, both, head_named}
use Rattle.export_answers.specs.Files.{headed, framed}

-- The length, the file at the front of the output space, and the work space.
pub record HostBuildGiven (b : List ℕ) (size : HostSize) (method : HostMethod) (depth growth : ℕ) (out work : List ℕ) (a : Answer) (out' work' : List ℕ) : Type 0 where
  pub number :
      a.number ≡ both (carving_of size method)
      (λ z how. refusal (build_rules b (head_named z how depth growth) (length out) (length work)))
      1
  pub value :
      a.value ≡ both (carving_of size method)
      (λ z how. served a.number (length (file_in (head_named z how depth growth) b)) 0)
      0
  pub out_given :
      out' ≡ both (carving_of size method)
      (λ z how. served a.number
      (file_in (head_named z how depth growth) b ++ drop (length (file_in (head_named z how depth growth) b)) out)
      out)
      out
  pub work_left : work' ≡ served a.number (replicate (length work) 0) work

-- Size, method and range, or the number alone; and the work space.
pub record HostCheckGiven (file work : List ℕ) (a : FileAnswer) (work' : List ℕ) : Type 0 where
  pub number : a.number ≡ refusal (check_rules file (length work))
  pub head : a ≡ headed a.number (served a.number (head_in (parse file)) none)
  pub work_left : work' ≡ worked a.number (replicate (length work) 0) work

-- The same, and picture and map at the front of their spaces.
pub record HostReadGiven (file picture map work : List ℕ) (a : FileAnswer) (picture' map' work' : List ℕ) : Type 0 where
  pub number : a.number ≡ refusal (read_rules file (length picture) (length map) (length work))
  pub head : a ≡ headed a.number (served a.number (head_in (parse file)) none)
  pub picture_given :
      picture' ≡ served a.number
      (bytes_in (parse file) ++ drop (length (bytes_in (parse file))) picture)
      picture
  pub map_given : map' ≡ served a.number (flat (maps_in (parse file)) ++ drop (length (flat (maps_in (parse file)))) map) map
  pub work_left : work' ≡ worked a.number (replicate (length work) 0) work

-- The size shown, what is shown at the front of the output space, and the work space.
pub record HostShowGiven (file : List ℕ) (wanted : ℕ) (out work : List ℕ) (a : SizeAnswer) (out' work' : List ℕ) : Type 0 where
  pub number : a.number ≡ refusal (show_rules file wanted (length out) (length work))
  pub size : a ≡ framed a.number (served a.number (drawn_size (shows file wanted)) none)
  pub out_given :
      out' ≡ served a.number
      (drawn_bytes (shows file wanted) ++ drop (length (drawn_bytes (shows file wanted))) out)
      out
  pub work_left : work' ≡ worked a.number (replicate (length work) 0) work

-- The size of a row of this many pixels, of the kind that a host names.
abbrev pub row_size : ℕ → ℕ → HostSize
row_size pixels kind = record { width = pixels; height = 1; kind = kind }

-- A row at a width, of a kind that is named: the number of its bytes, and the row at the front of the output space. Its last column
-- isn't joined to the first.
pub record HostRowAtGiven (samples : List ℕ) (kind : ℕ) (numbers : List ℕ) (wanted : ℕ) (out : List ℕ) (a : Answer) (out' : List ℕ) : Type 0 where
  pub number :
      a.number ≡ known (sizing_of (row_size (length numbers) kind))
      (λ z. refusal (row_at_rules z.kind false samples numbers wanted (length out)))
      1
  pub value :
      a.value ≡ known (sizing_of (row_size (length numbers) kind))
      (λ z. served a.number (length (row_shown z.kind false samples numbers wanted)) 0)
      0
  pub out_given :
      out' ≡ known (sizing_of (row_size (length numbers) kind))
      (λ z. served a.number
      (row_shown z.kind false samples numbers wanted ++ drop (length (row_shown z.kind false samples numbers wanted)) out)
      out)
      out
