-- Pictures along either axis. "A horizontal seam is the vertical seam of the picture with rows and columns exchanged."
use Rattle.std.specs.Prelude.{List, ℕ}
use Rattle.grids.specs.Exchange.{exchange}
use Rattle.grids.specs.Cut.{cut}
use Rattle.pictures.specs.declared.sizes.Size.{Size}
use Rattle.seam_rules.specs.declared.answers.Axis.{Axis}
use Rattle.seam_rules.specs.declared.answers.Axis.TheVariants.{Vertical, Horizontal}
use Rattle.seam_rules.specs.Axes.{turned_size, narrowed}

-- The grid of width w turned so that a seam along the axis is vertical.
unfoldable pub turned : {A : Type 0} → Axis → ℕ → List (List A) → List (List A)
turned Vertical w p = p
turned Horizontal w p = exchange w p

-- "Cutting closes each row up to the left, a horizontal cut each column upward."
unfoldable pub cut_along : {A : Type 0} → Axis → Size → List ℕ → List (List A) → List (List A)
cut_along x z s p = turned x (narrowed (turned_size x z)).width (cut s (turned x z.width p))
