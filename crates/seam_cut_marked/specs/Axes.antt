-- The seam of a picture by marks, along either axis, by a method. The marks are turned with the picture.
use Rattle.std.specs.Prelude.{Bool, List, ℕ}
use Rattle.pictures.specs.declared.sizes.Size.{Size}
use Rattle.pictures.specs.Pictures.{Picture}
use Rattle.energy.specs.declared.methods.Method.{Method}
use Rattle.seam_theory.specs.PictureSeams.{marked_up, marked_seam_of, marked_cost_of, is_none}
use Rattle.seam_rules.specs.declared.answers.Axis.{Axis}
use Rattle.seam_rules.specs.Axes.{turned_size}
use Rattle.seam_turn.specs.Axes.{turned}

-- The seam found along the axis: its columns from the top, or its rows from the left; and its cost.
unfoldable pub marked_seam_along : Method → Axis → Size → Picture → List (List ℕ) → List ℕ
marked_seam_along how x z p m = marked_seam_of how (turned_size x z).width (turned_size x z).height (turned x z.width p) (turned x z.width m)

unfoldable pub marked_cost_along : Method → Axis → Size → Picture → List (List ℕ) → ℕ
marked_cost_along how x z p m = marked_cost_of how (turned_size x z).width (turned_size x z).height (turned x z.width p) (turned x z.width m)

-- Whether every seam along the axis meets a protected pixel.
unfoldable pub blocked_along : Method → Axis → Size → Picture → List (List ℕ) → Bool
blocked_along how x z p m = is_none (marked_up how (turned_size x z).width (turned_size x z).height (turned x z.width p) (turned x z.width m))
