-- How one seam is found and cut between places of the work space. What private functions ask and promise; no public promise cites it.
use Rattle.std.specs.Prelude.{◌≡◌, ◌⊎◌, List, ℕ, ◌+◌, ◌≤◌, ◌<◌, length, take}
use Rattle.grids.specs.Each.{Each}
use Rattle.grids.specs.Cut.{cut}
use Rattle.pictures.specs.declared.sizes.Size.{Size}
use Rattle.pictures.specs.Pictures.{Picture, picture_bytes, picture, bytes, pixels}
use Rattle.energy.specs.declared.methods.Method.{Method}
use Rattle.energy.specs.Bounds.{most_cost}
use Rattle.seam_moves.specs.Between.{part_at}
use Rattle.seam_bounds.specs.Inner.{PlacesApart}
use Rattle.seam_rules.specs.declared.answers.Axis.{Axis}
use Rattle.seam_rules.specs.Axes.{turned_size, narrowed}
use Rattle.seam_turn.specs.Axes.{turned, cut_along}
use Rattle.seam_cut.specs.Axes.{seam_along, cost_along}

-- n bytes at a and m bytes at b don't overlap.
abbrev pub Apart : ℕ → ℕ → ℕ → ℕ → Type 0
Apart a n b m = (a + n ≤ b) ⊎ (b + m ≤ a)

-- The picture at a place of the work space.
abbrev pub picture_at : Size → ℕ → List ℕ → Picture
picture_at z at work = picture z (part_at at (picture_bytes z) work)

-- Two places for a picture, with a byte for each pixel after the second, and room for the seam.
pub record SeamNeeded (work : ℕ) (from : ℕ) (z : Size) (x : Axis) (at seam : ℕ) : Type 0 where
  pub places : PlacesApart work from at (picture_bytes z)
  pub room : at + (picture_bytes z + pixels z) ≤ work
  pub seam_room : (turned_size x z).height ≤ seam

-- The seam of the picture at `from`, its cost, and the picture turned at `at`; every other place as it was.
pub record SeamGiven (work : List ℕ) (from : ℕ) (z : Size) (how : Method) (x : Axis) (at : ℕ) (seam : List ℕ) (cost : ℕ) (work' seam' : List ℕ) : Type 0 where
  pub cost_is : cost ≡ cost_along how x z (picture_at z from work)
  pub cost_most : cost ≤ most_cost
  pub seam_is : take (turned_size x z).height seam' ≡ seam_along how x z (picture_at z from work)
  pub seam_long : length seam' ≡ length seam
  pub turned_is : part_at at (picture_bytes z) work' ≡ bytes z.kind (turned x z.width (picture_at z from work))
  pub long : length work' ≡ length work
  pub others : (a n : ℕ) → Apart a n at (picture_bytes z + pixels z) → part_at a n work' ≡ part_at a n work

-- A picture turned at `at`, more than one column or row for the seam to leave, and a seam inside it.
pub record CutNeeded (work : ℕ) (at : ℕ) (z : Size) (x : Axis) (seam : List ℕ) (to : ℕ) : Type 0 where
  pub wide : 1 < (turned_size x z).width
  pub seam_room : (turned_size x z).height ≤ length seam
  pub inside : Each (λ c. c < (turned_size x z).width) (turned_size x z).height (take (turned_size x z).height seam)
  pub places : PlacesApart work at to (picture_bytes z)

-- The size that a cut along the axis leaves.
abbrev pub left_along : Axis → Size → Size
left_along x z = turned_size x (narrowed (turned_size x z))

-- The picture left at `to`; every other place as it was.
pub record CutGiven (work : List ℕ) (at : ℕ) (z : Size) (x : Axis) (seam : List ℕ) (to : ℕ) (work' : List ℕ) : Type 0 where
  pub picture_is :
      part_at to (picture_bytes (left_along x z)) work'
      ≡ bytes (turned_size x z).kind (turned x (narrowed (turned_size x z)).width (cut (take (turned_size x z).height seam) (picture_at (turned_size x z) at work)))
  pub long : length work' ≡ length work
  pub others : (a n : ℕ) → Apart a n at (picture_bytes z) → Apart a n to (picture_bytes z) → part_at a n work' ≡ part_at a n work

-- A picture at `from`, a place `at` for the work, with a byte for each pixel after it, and a place for the picture left.
pub record StepNeeded (work : ℕ) (from : ℕ) (z : Size) (x : Axis) (at to : ℕ) : Type 0 where
  pub wide : 1 < (turned_size x z).width
  pub source : PlacesApart work from at (picture_bytes z)
  pub room : at + (picture_bytes z + pixels z) ≤ work
  pub target : PlacesApart work at to (picture_bytes z)

-- The picture without its seam, and the seam's cost; every other place as it was.
pub record StepGiven (work : List ℕ) (from : ℕ) (z : Size) (how : Method) (x : Axis) (at to cost : ℕ) (work' : List ℕ) : Type 0 where
  pub cost_is : cost ≡ cost_along how x z (picture_at z from work)
  pub cost_most : cost ≤ most_cost
  pub picture_is : picture_at (left_along x z) to work' ≡ cut_along x z (seam_along how x z (picture_at z from work)) (picture_at z from work)
  pub long : length work' ≡ length work
  pub others : (a n : ℕ) → Apart a n at (picture_bytes z + pixels z) → Apart a n to (picture_bytes z) → part_at a n work' ≡ part_at a n work
