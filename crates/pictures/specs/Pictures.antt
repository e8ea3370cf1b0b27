-- "Pictures": sizes, kinds, and a lent buffer read as rows of pixels.
use Rattle.std.specs.Prelude.{not, ◌||◌, List, [], ◌∷◌, ◌++◌, map, ℕ, ◌*◌, eqb, ltb, length, get_or, take, drop}
use Rattle.grids.specs.Each.{Each, Grid}
use Rattle.grids.specs.Rows.{rows_of, flat}
use Rattle.pictures.specs.declared.sizes.Kind.{Kind}
use Rattle.pictures.specs.declared.sizes.Kind.TheVariants.{Grey, Rgb}
use Rattle.pictures.specs.declared.sizes.Size.{Size}
use Rattle.pictures.specs.Refusals.{Rule, ◌when◌, refusal, served}

-- A picture: rows from the top, of pixels from the left. A pixel is the list of its samples, red first.
abbrev pub Picture : Type 0
Picture = List (List (List ℕ))

-- "width m and height n, each 1 to 512": the limit, here alone.
abbrev pub largest_side : ℕ
largest_side = 512

-- Samples a pixel, bytes a sample, and so bytes a pixel: the one times the other.
abbrev pub channels_of : Kind → ℕ
channels_of Grey = 1
channels_of Rgb = 3

abbrev pub sample_bytes : Kind → ℕ
sample_bytes Grey = 1
sample_bytes Rgb = 1

unfoldable pub pixel_bytes : Kind → ℕ
pixel_bytes Grey = 1
pixel_bytes Rgb = 3

-- The largest sample.
abbrev pub largest_sample : Kind → ℕ
largest_sample Grey = 255
largest_sample Rgb = 255

-- Bytes a row, and bytes a picture: rows have no padding.
abbrev pub row_bytes : Size → ℕ
row_bytes z = z.width * pixel_bytes z.kind

abbrev pub picture_bytes : Size → ℕ
picture_bytes z = z.height * row_bytes z

-- How many pixels a picture has.
abbrev pub pixels : Size → ℕ
pixels z = z.height * z.width

-- "Work space": 32 bytes for each pixel of the picture.
abbrev pub work_bytes : Size → ℕ
work_bytes z = 32 * pixels z

-- Refusals 2 and 3 of a size.
abbrev pub side_rules : Size → List Rule
side_rules z =
    2 when (eqb z.width 0 || eqb z.height 0)
    ∷ 3 when (ltb largest_side z.width || ltb largest_side z.height)
    ∷ []

-- Refusals 2 to 4 of a picture buffer that is `bytes` long.
abbrev pub size_rules : Size → ℕ → List Rule
size_rules z bytes = side_rules z ++ (4 when not (eqb bytes (picture_bytes z)) ∷ [])

-- The samples in bytes, and the bytes of samples: one a sample.
unfoldable pub samples_of : Kind → List ℕ → List ℕ
samples_of Grey b = b
samples_of Rgb b = b

unfoldable pub bytes_of : Kind → List ℕ → List ℕ
bytes_of Grey s = s
bytes_of Rgb s = s

-- The row of w pixels in some bytes, and the bytes of a row of pixels.
unfoldable pub row_in : Kind → ℕ → List ℕ → List (List ℕ)
row_in k w b = map (samples_of k) (rows_of (pixel_bytes k) w b)

unfoldable pub row_out : Kind → List (List ℕ) → List ℕ
row_out k x = flat (map (bytes_of k) x)

-- The picture in a buffer, and the buffer of a picture.
unfoldable pub picture : Size → List ℕ → Picture
picture z b = map (row_in z.kind z.width) (rows_of (row_bytes z) z.height b)

unfoldable pub bytes : Kind → Picture → List ℕ
bytes k p = flat (map (row_out k) p)

-- The pixel in row r and column c; past the edge, no samples.
abbrev pub pixel : Picture → ℕ → ℕ → List ℕ
pixel p r c = get_or (get_or p r []) c []

-- The marks in a buffer: rows from the top, one byte a pixel.
abbrev pub marks_of : Size → List ℕ → List (List ℕ)
marks_of z b = rows_of z.width z.height b

-- The picture at the front of a space, and the marks after it.
abbrev pub picture_in : Size → List ℕ → Picture
picture_in z space = picture z (take (picture_bytes z) space)

abbrev pub marks_in : Size → List ℕ → List (List ℕ)
marks_in z space = marks_of z (take (pixels z) (drop (picture_bytes z) space))

-- A picture of this size: as many rows of as many pixels of as many samples.
abbrev pub OfSize : Size → Picture → Type 0
OfSize z p = Each (Grid (channels_of z.kind) z.width) z.height p

-- "A row of a picture is given out as that part of the lent picture": its bytes; none past the last row, and none where
-- the size or the length is refused.
abbrev pub row_of : Size → List ℕ → ℕ → List ℕ
row_of z b r = served (refusal (size_rules z (length b))) (get_or (rows_of (row_bytes z) z.height b) r []) []
