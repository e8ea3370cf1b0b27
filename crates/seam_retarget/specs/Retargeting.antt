-- What the operation that retargets a lent picture gives.
use Rattle.pictures.specs.declared.refusals.Refusal.{Refusal}
use Rattle.std.specs.Prelude.{◌≡◌, List, ◌++◌, ℕ, length, drop, replicate, Result}
use Rattle.pictures.specs.declared.sizes.Size.{Size}
use Rattle.pictures.specs.Refusals.{refusal, served}
use Rattle.pictures.specs.Pictures.{picture_bytes, picture, bytes}
use Rattle.energy.specs.declared.methods.Method.{Method}
use Rattle.seam_rules.specs.declared.answers.Rows.{Rows}
use Rattle.seam_rules.specs.declared.answers.Columns.{Columns}
use Rattle.seam_rules.specs.Answers.{retargeted_number, retargeted_total}
use Rattle.seam_rules.specs.Counts.{left_size, retarget_rules}
use Rattle.seam_retarget.specs.Cells.{Cell, cell}

-- The cell of the size that is left.
abbrev pub cell_of : Method → Size → List ℕ → Rows → Columns → Cell
cell_of how z b rows columns = cell how z (picture z b) rows columns

-- The number, the total, the output space, which keeps what stands after the cell's picture, and the work space.
pub record RetargetGiven (b : List ℕ) (z : Size) (how : Method) (rows : Rows) (columns : Columns) (out work : List ℕ) (answer : Result ℕ Refusal) (out' work' : List ℕ) : Type 0 where
  pub number : retargeted_number answer ≡ refusal (retarget_rules z rows columns (length b) (length out) (length work))
  pub total : retargeted_total answer ≡ served (retargeted_number answer) (cell_of how z b rows columns).total 0
  pub out_given :
      out' ≡ served (retargeted_number answer)
      (bytes z.kind (cell_of how z b rows columns).picture ++ drop (picture_bytes (left_size z rows columns)) out)
      out
  pub work_left : work' ≡ served (retargeted_number answer) (replicate (length work) 0) work
