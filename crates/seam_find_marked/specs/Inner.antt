-- What the private functions of this crate ask and promise besides those of finding without marks. No public promise cites
-- it.
use Rattle.std.specs.Prelude.{◌≡◌, List, ℕ, ◌+◌, ◌*◌, ◌<◌, length, get_or, take, drop}
use Rattle.grids.specs.Table.{table}
use Rattle.pictures.specs.declared.sizes.Size.{Size}
use Rattle.pictures.specs.Pictures.{Picture, picture_bytes, pixels, picture_in, marks_in}
use Rattle.energy.specs.declared.methods.Method.{Method}
use Rattle.energy.specs.Energy.{StepCosts, costs_at}
use Rattle.seam_theory.specs.PictureSeams.{mark_at}
use Rattle.seam_theory.specs.Sums.{CostRows, cost_rows}
use Rattle.seam_sums.specs.Weights.{kept, protected, weight_of}

-- Bounds for the arithmetic: with samples of a byte no pixel costs more, nor weighs more.
abbrev pub byte_energy : ℕ
byte_energy = 2 * (3 * 255)

abbrev pub most_weight : ℕ
most_weight = byte_energy + (kept + protected)

-- The weight at column c of a row, from a row of its costs and its marks.
abbrev pub weight_in : List ℕ → List ℕ → ℕ → ℕ
weight_in costs marks c = weight_of (get_or costs c 0) (get_or marks c 0)

-- Each of a pixel's three costs with its mark.
abbrev pub weighed : StepCosts → ℕ → StepCosts
weighed k mark = record { left = weight_of k.left mark; up = weight_of k.up mark; right = weight_of k.right mark }

-- In row r and column c of a picture of w columns and h rows with marks, by a method.
abbrev pub weights_at : Method → ℕ → ℕ → Picture → List (List ℕ) → ℕ → ℕ → StepCosts
weights_at how w h p m r c = weighed (costs_at how w h p r c) (mark_at m r c)

-- The costs of row i of a picture with the marks after it: its weights.
abbrev pub weights_of : Size → Method → List ℕ → ℕ → CostRows
weights_of z how b i = cost_rows z.width (weights_at how z.width z.height (picture_in z b) (marks_in z b) i)

-- The bytes of a picture and of its marks.
abbrev pub marked_bytes : Size → ℕ
marked_bytes z = picture_bytes z + pixels z

-- The marks of row i, which stand after the picture.
abbrev pub marks_at : Size → List ℕ → ℕ → List ℕ
marks_at z b i = take z.width (drop (picture_bytes z + i * z.width) b)

-- A row of costs, none of which reaches what a kept pixel adds, and its marks, and room for the weights.
pub record WeighNeeded (costs marks : List ℕ) (cost : ℕ) : Type 0 where
  pub all : length costs ≡ cost
  pub marked : length marks ≡ cost
  pub cheap : (c : ℕ) → get_or costs c 0 < kept

-- The three costs of a row's steps and its marks, and room for three rows of weights,
pub record WeighAllNeeded (left up right marks : List ℕ) (steps : ℕ) : Type 0 where
  pub left_long : length left ≡ length marks
  pub up_long : length up ≡ length marks
  pub right_long : length right ≡ length marks
  pub room : steps ≡ 3 * length marks
  pub cheap_left : (c : ℕ) → get_or left c 0 < kept
  pub cheap_up : (c : ℕ) → get_or up c 0 < kept
  pub cheap_right : (c : ℕ) → get_or right c 0 < kept

-- which are these.
abbrev pub weighed_rows : List ℕ → List ℕ → List ℕ → List ℕ → CostRows
weighed_rows left up right marks =
    record { left = table (weight_in left marks) (length marks); up = table (weight_in up marks) (length marks); right = table (weight_in right marks) (length marks) }
