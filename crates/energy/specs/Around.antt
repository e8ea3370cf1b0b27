-- A pixel and its four neighbours.
use Rattle.std.specs.Prelude.{Bool, cond, List, ℕ, ◌+◌, ◌-◌, ltb}
use Rattle.std.proofs.Math.Option.{Option, none, some, map}
use Rattle.pictures.specs.Pictures.{Picture, pixel}

-- The column to the left of column c of w, and the one to its right. The first has none to its left and the last none to its
-- right, unless the last column is joined to the first.
unfoldable pub left_of : Bool → ℕ → ℕ → Option ℕ
left_of wrap w c = cond (ltb 0 c) (some (c - 1)) (cond wrap (some (w - 1)) none)

unfoldable pub right_of : Bool → ℕ → ℕ → Option ℕ
right_of wrap w c = cond (ltb (c + 1) w) (some (c + 1)) (cond wrap (some 0) none)

-- The row above row r of h, and the one below.
unfoldable pub above_of : ℕ → Option ℕ
above_of r = cond (ltb 0 r) (some (r - 1)) none

unfoldable pub below_of : ℕ → ℕ → Option ℕ
below_of h r = cond (ltb (r + 1) h) (some (r + 1)) none

-- A pixel with its neighbours; none past the edge.
pub record Around : Type 0 where
  pub it : List ℕ
  pub left : Option (List ℕ)
  pub right : Option (List ℕ)
  pub up : Option (List ℕ)
  pub down : Option (List ℕ)

-- The pixel in row r and column c of a picture of w columns and h rows, with its neighbours.
abbrev pub around : Bool → ℕ → ℕ → Picture → ℕ → ℕ → Around
around wrap w h p r c = record {
  it = pixel p r c;
  left = map (pixel p r) (left_of wrap w c);
  right = map (pixel p r) (right_of wrap w c);
  up = map (λ a. pixel p a c) (above_of r);
  down = map (λ a. pixel p a c) (below_of h r);
}
