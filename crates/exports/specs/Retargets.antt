-- What hosts see of rows and columns removed together.
use Rattle.std.specs.Prelude.{◌≡◌, List, ◌++◌, ℕ, length, drop, replicate}
use Rattle.pictures.specs.Refusals.{refusal, served}
use Rattle.pictures.specs.Pictures.{picture_bytes, bytes}
use Rattle.seam_rules.specs.Counts.{row_count, column_count, left_size, retarget_rules}
use Rattle.seam_retarget.specs.Retargeting.{cell_of}
use Rattle.export_answers.specs.declared.answers.Answer.{Answer}
use Rattle.export_answers.specs.declared.names.HostSize.{HostSize}
use Rattle.export_answers.specs.declared.names.HostMethod.{HostMethod}
use Rattle.export_answers.specs.Named.{carving_of, both}

-- The total, the picture of the cell at the front of the output space, and the work space.
pub record HostRetargetGiven (b : List ℕ) (size : HostSize) (method : HostMethod) (rows columns : ℕ) (out work : List ℕ) (a : Answer) (out' work' : List ℕ) : Type 0 where
  pub number :
      a.number ≡ both (carving_of size method)
      (λ z how. refusal (retarget_rules z (row_count rows) (column_count columns) (length b) (length out) (length work)))
      1
  pub value :
      a.value ≡ both (carving_of size method)
      (λ z how. served a.number (cell_of how z b (row_count rows) (column_count columns)).total 0)
      0
  pub out_given :
      out' ≡ both (carving_of size method)
      (λ z how. served a.number
      (bytes z.kind (cell_of how z b (row_count rows) (column_count columns)).picture
      ++ drop (picture_bytes (left_size z (row_count rows) (column_count columns))) out)
      out)
      out
  pub work_left : work' ≡ served a.number (replicate (length work) 0) work
