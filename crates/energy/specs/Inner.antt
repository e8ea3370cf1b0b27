-- What the private functions of this crate ask and promise, in terms of rows of bytes. No public promise cites it.
use Rattle.std.specs.Prelude.{◌≡◌, cond, List, ◌++◌, ℕ, ◌+◌, ◌-◌, ◌*◌, ◌≤◌, ◌<◌, ltb, length, get_or, sum, take, drop}
use Rattle.grids.specs.Rows.{row_at}
use Rattle.pictures.specs.declared.sizes.Size.{Size}
use Rattle.pictures.specs.Refusals.{refusal}
use Rattle.pictures.specs.Limits.{most_side}
use Rattle.pictures.specs.Pictures.{largest_side, pixel_bytes, picture_bytes, side_rules, size_rules}
use Rattle.energy.specs.declared.methods.EnergyRule.{EnergyRule}
use Rattle.energy.specs.declared.methods.EnergyRule.TheVariants.{Edge, Flat, Forward}
use Rattle.energy.specs.Energy.{apart, difference}

-- A row of a picture of its size, with room for the row's energies.
pub record RowNeeded (b : List ℕ) (z : Size) (r out : ℕ) : Type 0 where
  pub sized : refusal (size_rules z (length b)) ≡ 0
  pub inside : r < z.height
  pub room : z.width ≤ out

-- A row that has one above it, with room for three rows of costs.
pub record RowStepsNeeded (b : List ℕ) (z : Size) (r left up right : ℕ) : Type 0 where
  pub sized : refusal (size_rules z (length b)) ≡ 0
  pub later : 0 < r
  pub inside : r < z.height
  pub left_room : left ≡ z.width
  pub up_room : up ≡ z.width
  pub right_room : right ≡ z.width

-- The bytes of a row and of the row that stands for the one below it, of `width` pixels of `channels` samples, and the column
-- that stands for the one to the right of the last.
pub record LinesNeeded (channels : ℕ) (it lower : List ℕ) (width beside : ℕ) (out : List ℕ) : Type 0 where
  pub some : 0 < width
  pub inside : beside < width
  pub narrow : width ≤ most_side
  pub it_is : length it ≡ width * channels
  pub lower_is : length lower ≡ width * channels
  pub room : width ≤ length out

-- The column to the right of column c; of the last column, the one that stands for it.
abbrev pub right_column : ℕ → ℕ → ℕ → ℕ
right_column width beside c = cond (ltb (c + 1) width) (c + 1) beside

-- How far sample k of row a is from that of row b; that and how far sample k of row c is from that of row d, added; and the same of
-- pixel k.
abbrev pub sample_apart : List ℕ → List ℕ → ℕ → ℕ
sample_apart a b k = apart (get_or a k 0) (get_or b k 0)

abbrev pub sample_distance : List ℕ → List ℕ → List ℕ → List ℕ → ℕ → ℕ
sample_distance a b c d k = sample_apart a b k + sample_apart c d k

abbrev pub two_distances : ℕ → List ℕ → List ℕ → List ℕ → List ℕ → ℕ → ℕ
two_distances channels a b c d k =
    difference (row_at channels k a) (row_at channels k b) + difference (row_at channels k c) (row_at channels k d)

-- What pixel k has, from what its samples have in two rows.
abbrev pub two_sums : ℕ → List ℕ → List ℕ → ℕ → ℕ
two_sums channels first second k = sum (row_at channels k first) + sum (row_at channels k second)

-- A block, in which rows are worked out: `pixels` pixels of `channels` samples each, `samples` in all.
pub record BlockOf (channels pixels samples : ℕ) : Type 0 where
  pub few : channels ≤ 3
  pub some : 0 < pixels
  pub narrow : pixels ≤ most_side
  pub samples_are : samples ≡ pixels * channels

-- Four rows of at least so many samples.
pub record DistancesNeeded (a b c d : List ℕ) (samples : ℕ) : Type 0 where
  pub first : samples ≤ length a
  pub second : samples ≤ length b
  pub third : samples ≤ length c
  pub fourth : samples ≤ length d

-- The energy of pixel c of a row, from its bytes, those of the row that stands for the one below, and the column that stands for
-- the one to its right.
abbrev pub energy_between : ℕ → List ℕ → List ℕ → ℕ → ℕ → ℕ
energy_between channels it lower c right =
    difference (row_at channels right it) (row_at channels c it) + difference (row_at channels c lower) (row_at channels c it)

-- The same in a row of `width`, where column `beside` stands for the one to the right of the last.
unfoldable pub between : ℕ → List ℕ → List ℕ → ℕ → ℕ → ℕ → ℕ
between channels it lower width beside c = energy_between channels it lower c (right_column width beside c)

-- The line, column or row, that stands for the one after the last, line i: by `edge` the one before it, and of the only one the
-- line itself, from which it doesn't differ (0 - 1 is 0); by `flat` always the line itself. By `forward` none is asked for.
abbrev pub past_last : EnergyRule → ℕ → ℕ
past_last Edge i = i - 1
past_last Flat i = i
past_last Forward i = i

-- And for the one after line i of n.
abbrev pub neighbour_of : EnergyRule → ℕ → ℕ → ℕ
neighbour_of rule i n = cond (ltb (i + 1) n) (i + 1) (past_last rule i)

-- By forward. A row of some pixels, and the same with its first and its last pixel once more at its sides.
pub record RowOf (channels : ℕ) (it : List ℕ) (width : ℕ) : Type 0 where
  pub some : 0 < width
  pub narrow : width ≤ largest_side
  pub it_is : length it ≡ width * channels

abbrev pub padded : ℕ → List ℕ → List ℕ
padded channels it = take channels it ++ (it ++ drop (length it - channels) it)

-- The row above, and room for three rows of costs.
pub record StepsNeeded (channels : ℕ) (it above : List ℕ) (left up right : ℕ) : Type 0 where
  pub row : RowOf channels it left
  pub above_is : length above ≡ left * channels
  pub up_is : up ≡ left
  pub right_is : right ≡ left

-- The pixels beside those of a row and above them, and room for three rows of costs.
pub record StepRowsNeeded (channels : ℕ) (before after above : List ℕ) (left up right : ℕ) : Type 0 where
  pub before_long : left * channels ≤ length before
  pub after_long : left * channels ≤ length after
  pub above_long : left * channels ≤ length above
  pub up_is : up ≡ left
  pub right_is : right ≡ left

-- In such a row the pixel to the left of pixel c stands at place c, the one to its right at place c + 2.
module _ (channels : ℕ) (it : List ℕ) where
  abbrev pub befores : List ℕ
  befores = padded channels it

  abbrev pub afters : List ℕ
  afters = drop (2 * channels) (padded channels it)

  -- What coming to pixel c costs from straight above, where the second distance is that of a row from itself, 0; from the left and from
  -- the right, where `above` is the row above.
  abbrev pub across_of : ℕ → ℕ
  across_of = two_distances channels afters befores befores befores

  abbrev pub left_of_row : List ℕ → ℕ → ℕ
  left_of_row above = two_distances channels afters befores above befores

  abbrev pub right_of_row : List ℕ → ℕ → ℕ
  right_of_row above = two_distances channels afters befores above afters

-- One pixel at a place. The samples of a pixel, which begin at place `at` of a picture's bytes.
abbrev pub pixel_from : ℕ → ℕ → List ℕ → List ℕ
pixel_from channels at b = take channels (drop at b)

-- A pixel of a picture that is carved, of n bytes.
pub record CostAsked (n : ℕ) (z : Size) (w r c bytes : ℕ) : Type 0 where
  pub channels : n ≡ pixel_bytes z.kind
  pub sides : refusal (side_rules z) ≡ 0
  pub left : w ≤ z.width
  pub row : r < z.height
  pub column : c < w
  pub long : bytes ≡ picture_bytes z
