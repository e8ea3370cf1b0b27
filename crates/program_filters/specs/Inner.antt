-- What the private functions of this crate promise. No public promise cites it.
use Rattle.std.proofs.Math.Option.{some}
use Rattle.std.specs.Prelude.{Result, List, ℕ, ◌*◌, ◌≤◌, ◌≡◌, length}
use Rattle.pictures.specs.declared.sizes.Size.{Size}
use Rattle.program_theory.specs.Programs.{picture_rules, file_answer, held_pixels, fitted_rules, drawn_text}
use Rattle.pictures.specs.declared.refusals.Refusal.{Refusal}
use Rattle.program_netpbm.specs.Outputs.{output_space}
use Rattle.program_netpbm.specs.Inner.{Answered}
use Rattle.pictures.specs.Pictures.{pixel_bytes}
use Rattle.text_theory.specs.Files.{Parts, parse}
use Rattle.file_theory.specs.Shows.{shows}

-- The file of a picture's samples.
abbrev pub FileAnswered : Size → List ℕ → List ℕ → Result ℕ Refusal → List ℕ → Type 0
FileAnswered z b out o out' = Answered (picture_rules (some (z, b))) (file_answer (some (z, b))) out o out'

-- A space for as many pixels of the file's kind as are held, and room for the output.
pub record DrawNeeded (file picture out : List ℕ) : Type 0 where
  pub held : (p : Parts) → parse file ≡ some p → length picture ≡ held_pixels * pixel_bytes p.head.size.kind
  pub room : output_space ≤ length out

-- The picture that a file shows.
abbrev pub PictureAnswered : List ℕ → ℕ → List ℕ → Result ℕ Refusal → List ℕ → Type 0
PictureAnswered file v out o out' = Answered (fitted_rules v file) (drawn_text (shows file v)) out o out'
