-- The last cell. What private functions ask and promise; no public promise cites it.
use Rattle.std.specs.Prelude.{◌≡◌, List, ◌++◌, ℕ, ◌≤◌, ◌<◌, length, drop, replicate}
use Rattle.pictures.specs.declared.sizes.Size.{Size}
use Rattle.pictures.specs.Refusals.{refusal}
use Rattle.pictures.specs.Pictures.{size_rules, picture_bytes, bytes}
use Rattle.energy.specs.declared.methods.Method.{Method}
use Rattle.seam_rules.specs.declared.answers.Rows.{Rows}
use Rattle.seam_rules.specs.declared.answers.Columns.{Columns}
use Rattle.seam_rules.specs.Counts.{largest_count, left_size, retarget_bytes}
use Rattle.seam_retarget.specs.Retargeting.{cell_of}

-- Counts and buffers of which nothing is refused.
pub record RetargetNeeded (b : List ℕ) (z : Size) (rows : Rows) (columns : Columns) (out work : List ℕ) : Type 0 where
  pub sized : refusal (size_rules z (length b)) ≡ 0
  pub rows_few : rows.0 ≤ largest_count
  pub columns_few : columns.0 ≤ largest_count
  pub rows_left : rows.0 < z.height
  pub columns_left : columns.0 < z.width
  pub out_room : picture_bytes (left_size z rows columns) ≤ length out
  pub work_room : retarget_bytes z ≤ length work

-- The total of the cell, its picture at the front of out, and the work space zero.
pub record LastGiven (b : List ℕ) (z : Size) (how : Method) (rows : Rows) (columns : Columns) (out work : List ℕ) (answer : ℕ) (out' work' : List ℕ) : Type 0 where
  pub total : answer ≡ (cell_of how z b rows columns).total
  pub out_given : out' ≡ bytes z.kind (cell_of how z b rows columns).picture ++ drop (picture_bytes (left_size z rows columns)) out
  pub work_left : work' ≡ replicate (length work) 0
