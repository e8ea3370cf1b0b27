-- Seams cut one after the other, with what is kept of the pixels left. What private functions ask and promise; no public promise cites it.
use Rattle.std.specs.Prelude.{◌≡◌, false, List, map, ℕ, ◌+◌, ◌-◌, ◌*◌, ◌≤◌, ◌<◌, length, take}
use Rattle.grids.specs.Rows.{flat}
use Rattle.grids.specs.Cut.{cut}
use Rattle.pictures.specs.declared.sizes.Size.{Size}
use Rattle.pictures.specs.Refusals.{refusal}
use Rattle.pictures.specs.Limits.{most_side}
use Rattle.pictures.specs.Pictures.{Picture, side_rules, picture, picture_bytes, picture_in, pixel_bytes, bytes}
use Rattle.pictures.specs.Numbers.{pairs, largest_number}
use Rattle.energy.specs.declared.methods.Method.{Method}
use Rattle.energy.specs.declared.pixels.Step.{Step}
use Rattle.energy.specs.declared.pixels.Step.TheVariants.{Up, Left, Right}
use Rattle.energy.specs.Energy.{one_cost, costs_at}
use Rattle.energy.specs.Methods.{wrap_of}
use Rattle.energy.specs.Pixels.{cost_to}
use Rattle.seam_theory.specs.PictureSeams.{seam_of}
use Rattle.seam_planes.specs.Planes.{fronts, numbers_of}
use Rattle.seam_keep.specs.Keeping.{cost_grid}
use Rattle.seam_keep.specs.Refresh.{refreshed}
use Rattle.map_theory.specs.Maps.{carve, map_of}
use Rattle.map_theory.proofs.LeftColumns.{left_columns}
use Rattle.map_theory.proofs.Levels.{write_all}
use Rattle.map_rules.specs.Spaces.{map_at, map_bytes}

-- The picture of which w columns are left, in a plane as wide as at first.
abbrev pub left_picture : Size → ℕ → List ℕ → Picture
left_picture z w picture_plane = fronts w (picture z picture_plane)

-- What is kept of the pixels of the w columns that are left, plane by plane: what coming to each costs, and the columns in
-- which they stood at first, which are those that the map has numbered 0.
pub record Held (z : Size) (how : Method) (w : ℕ) (picture_plane up left right columns map_left : List ℕ) : Type 0 where
  pub up_costs : fronts w (numbers_of z.width z.height up) ≡ cost_grid how Up w z.height (left_picture z w picture_plane)
  pub left_costs : one_cost how.energy ≡ false → fronts w (numbers_of z.width z.height left) ≡ cost_grid how Left w z.height (left_picture z w picture_plane)
  pub right_costs : one_cost how.energy ≡ false → fronts w (numbers_of z.width z.height right) ≡ cost_grid how Right w z.height (left_picture z w picture_plane)
  pub first_columns : fronts w (numbers_of z.width z.height columns) ≡ map left_columns (numbers_of z.width z.height map_left)

-- The bytes of a picture, of planes and of a map that are as long as they must be.
pub record PlanesSized (z : Size) (picture_plane up left right columns map_left : ℕ) : Type 0 where
  pub sides : refusal (side_rules z) ≡ 0
  pub picture_long : picture_plane ≡ picture_bytes z
  pub up_long : up ≡ map_bytes z
  pub left_long : left ≡ map_bytes z
  pub right_long : right ≡ map_bytes z
  pub columns_long : columns ≡ map_bytes z
  pub map_long : map_left ≡ map_bytes z

-- The costs of one side after a seam was cut of w + 1 columns: refreshed where a neighbour changed, and else carried along.
abbrev pub carried_costs : Method → Step → Size → ℕ → List ℕ → List ℕ → List ℕ → List (List ℕ)
carried_costs how from z w s picture_plane plane =
    refreshed (wrap_of how) (w + 1) z.height (λ r c. cost_to from (costs_at how w z.height (picture z picture_plane) r c)) s
    (fronts (w + 1) (numbers_of z.width z.height plane))

pub record CostsKept (how : Method) (z : Size) (w : ℕ) (s picture_plane up left right up' left' right' : List ℕ) : Type 0 where
  pub up_long : length up' ≡ length up
  pub left_long : length left' ≡ length left
  pub right_long : length right' ≡ length right
  pub up_kept : fronts w (numbers_of z.width z.height up') ≡ carried_costs how Up z w s picture_plane up
  pub left_kept : one_cost how.energy ≡ false → fronts w (numbers_of z.width z.height left') ≡ carried_costs how Left z w s picture_plane left
  pub right_kept : one_cost how.energy ≡ false → fronts w (numbers_of z.width z.height right') ≡ carried_costs how Right z w s picture_plane right

-- More than one column left, of which all is kept, and a number.
pub record StepNeeded (z : Size) (how : Method) (w number : ℕ) (picture_plane up left right columns : List ℕ) (sums : ℕ) (map_left : List ℕ) : Type 0 where
  pub sized : PlanesSized z (length picture_plane) (length up) (length left) (length right) (length columns) (length map_left)
  pub more : 1 < w
  pub within : w ≤ z.width
  pub room : z.height * (4 * (w + 2)) ≤ sums
  pub some : 0 < number
  pub fits : number ≤ largest_number
  pub held : Held z how w picture_plane up left right columns map_left

-- The picture without its seam, and the map with the seam's number. All that is kept is kept of the columns left, and what a pixel costs
-- that has no changed neighbour is carried along, whatever it was.
pub record StepGiven (z : Size) (how : Method) (w number : ℕ) (picture_plane up left right map_left picture' up' left' right' columns' map' : List ℕ) : Type 0 where
  pub sized : PlanesSized z (length picture') (length up') (length left') (length right') (length columns') (length map')
  pub picture_left : left_picture z (w - 1) picture' ≡ cut (seam_of how w z.height (left_picture z w picture_plane)) (left_picture z w picture_plane)
  pub numbered : numbers_of z.width z.height map' ≡ write_all number (seam_of how w z.height (left_picture z w picture_plane)) (numbers_of z.width z.height map_left)
  pub costs_kept : CostsKept how z (w - 1) (seam_of how w z.height (left_picture z w picture_plane)) picture' up left right up' left' right'
  pub held : Held z how (w - 1) picture' up' left' right' columns' map'

-- A picture of its size at the front of a work space, and a place for its map.
pub record CarveNeeded (z : Size) (depth work map_left : ℕ) : Type 0 where
  pub sides : refusal (side_rules z) ≡ 0
  pub deep : depth < z.width
  pub room : work ≡ map_at z
  pub map_long : map_left ≡ map_bytes z

-- What is left of the picture, packed at the front, and its map.
pub record CarveGiven (z : Size) (how : Method) (depth : ℕ) (work work' map' : List ℕ) : Type 0 where
  pub packed : take (z.height * ((z.width - depth) * pixel_bytes z.kind)) work' ≡ bytes z.kind (carve (seam_of how) depth z.width z.height (picture_in z work))
  pub map_given : map' ≡ pairs (flat (map_of (seam_of how) depth z.width z.height (picture_in z work)))

-- A plane for the columns of a picture.
pub record ColumnsNeeded (w h columns : ℕ) : Type 0 where
  pub narrow : w ≤ most_side
  pub low : h ≤ most_side
  pub long : columns ≡ h * (2 * w)
