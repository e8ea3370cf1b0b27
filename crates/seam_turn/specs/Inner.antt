-- What the private functions of this crate ask. No public promise cites it.
use Rattle.std.specs.Prelude.{◌≡◌, List, ℕ, length}
use Rattle.pictures.specs.declared.sizes.Size.{Size}
use Rattle.pictures.specs.Refusals.{refusal}
use Rattle.seam_rules.specs.declared.answers.Axis.TheVariants.{Horizontal}
use Rattle.seam_rules.specs.Cuts.{close_along_lengths}

-- Buffers whose lengths are not refused.
pub record ColumnsNeeded (b : List ℕ) (z : Size) (s work : List ℕ) : Type 0 where
  pub lengths : refusal (close_along_lengths Horizontal z (length b) (length s) (length work)) ≡ 0
