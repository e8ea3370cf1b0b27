-- The seam of a picture along either axis, by a method.
use Rattle.std.specs.Prelude.{List, ℕ}
use Rattle.pictures.specs.declared.sizes.Size.{Size}
use Rattle.pictures.specs.Pictures.{Picture}
use Rattle.energy.specs.declared.methods.Method.{Method}
use Rattle.seam_theory.specs.PictureSeams.{seam_of, cost_of}
use Rattle.seam_rules.specs.declared.answers.Axis.{Axis}
use Rattle.seam_rules.specs.Axes.{turned_size}
use Rattle.seam_turn.specs.Axes.{turned}

-- The seam found along the axis: its columns from the top, or its rows from the left; and its cost.
unfoldable pub seam_along : Method → Axis → Size → Picture → List ℕ
seam_along how x z p = seam_of how (turned_size x z).width (turned_size x z).height (turned x z.width p)

unfoldable pub cost_along : Method → Axis → Size → Picture → ℕ
cost_along how x z p = cost_of how (turned_size x z).width (turned_size x z).height (turned x z.width p)
