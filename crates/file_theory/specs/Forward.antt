-- Change 103: "Each recorded seam is then least in forward cost among all connected paths." What a path costs is written out by the
-- equations of source 000, section 3.10, P being 0; the picture has w columns, and none past the side edges.
use Rattle.std.specs.Prelude.{false, cond, List, [], ◌∷◌, ℕ, zero, suc, ◌+◌, ◌-◌, ◌≤◌, eqb, ltb, length}
use Rattle.pictures.specs.Pictures.{Picture, pixel}
use Rattle.energy.specs.Energy.{difference}
use Rattle.seam_theory.specs.Connected.{IsPath}

module _ (w : ℕ) (p : Picture) where
  -- I(i, j−1) and I(i, j+1): "A neighbour past the side edge is the pixel itself."
  abbrev pub one_left : ℕ → ℕ → List ℕ
  one_left i zero = pixel p i zero
  one_left i (suc j) = pixel p i j

  abbrev pub one_right : ℕ → ℕ → List ℕ
  one_right i j = cond (ltb (j + 1) w) (pixel p i (j + 1)) (pixel p i j)

  -- C_U(i, j) = |I(i, j+1) − I(i, j−1)|
  abbrev pub cost_up : ℕ → ℕ → ℕ
  cost_up i j = difference (one_right i j) (one_left i j)

  -- C_L(i, j) = |I(i, j+1) − I(i, j−1)| + |I(i−1, j) − I(i, j−1)|
  abbrev pub cost_left : ℕ → ℕ → ℕ
  cost_left i j = difference (one_right i j) (one_left i j) + difference (pixel p (i - 1) j) (one_left i j)

  -- C_R(i, j) = |I(i, j+1) − I(i, j−1)| + |I(i−1, j) − I(i, j+1)|
  abbrev pub cost_right : ℕ → ℕ → ℕ
  cost_right i j = difference (one_right i j) (one_left i j) + difference (pixel p (i - 1) j) (one_right i j)

  -- "The step into a pixel costs C_L, C_U or C_R", by the column of the row above: j−1, j, or else j+1.
  abbrev pub step_cost : ℕ → ℕ → ℕ → ℕ
  step_cost i above j = cond (eqb above j) (cost_up i j) (cond (eqb (above + 1) j) (cost_left i j) (cost_right i j))

  -- The forward cost of a path, the list of its columns from the bottom row upward: "In the first row the cost is C_U."
  unfoldable pub forward_cost : List ℕ → ℕ
  forward_cost [] = 0
  forward_cost (j ∷ []) = cost_up 0 j
  forward_cost (j ∷ above ∷ q) = forward_cost (above ∷ q) + step_cost (suc (length q)) above j

-- A connected path through w columns and h rows, and no connected path has a lower forward cost.
pub record LeastForward (w h : ℕ) (p : Picture) (s : List ℕ) : Type 0 where
  pub path : IsPath false w h s
  pub least : (t : List ℕ) → IsPath false w h t → forward_cost w p s ≤ forward_cost w p t
