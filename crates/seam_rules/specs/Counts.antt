-- When a retarget is refused, the sizes in it, and which of two totals it takes.
use Rattle.std.specs.Prelude.{cond, List, [], ◌∷◌, ◌++◌, ℕ, ◌+◌, ◌-◌, ◌*◌, leb, ltb}
use Rattle.pictures.specs.declared.sizes.Size.{Size}
use Rattle.pictures.specs.Refusals.{◌when◌, Rule}
use Rattle.pictures.specs.Pictures.{picture_bytes, size_rules, work_bytes}
use Rattle.seam_rules.specs.declared.answers.Axis.{Axis}
use Rattle.seam_rules.specs.declared.answers.Axis.TheVariants.{Vertical, Horizontal}
use Rattle.seam_rules.specs.declared.answers.Rows.{Rows}
use Rattle.seam_rules.specs.declared.answers.Columns.{Columns}

-- A count of rows, and a count of columns, of n.
abbrev pub row_count : ℕ → Rows
row_count n = record { 0 = n }

abbrev pub column_count : ℕ → Columns
column_count n = record { 0 = n }

-- A size with `rows` rows and `columns` columns less.
abbrev pub smaller : Size → ℕ → ℕ → Size
smaller z rows columns = record { width = z.width - columns; height = z.height - rows; kind = z.kind }

-- "To remove r rows and c columns, each 0 to 64."
abbrev pub largest_count : ℕ
largest_count = 64

-- The size that is left.
abbrev pub left_size : Size → Rows → Columns → Size
left_size z rows columns = smaller z rows.0 columns.0

-- Bytes of work space: "32 bytes a pixel (a retarget: and 66 copies of the picture besides)".
abbrev pub retarget_bytes : Size → ℕ
retarget_bytes z = work_bytes z + 66 * picture_bytes z

-- By 7, "a retarget to less than 1 row or column, or by more than 64"; and by 8 where the output space is shorter than the
-- picture left, or the work space too short.
abbrev pub count_rules : Size → Rows → Columns → ℕ → ℕ → List Rule
count_rules z rows columns out work =
    7 when ltb largest_count rows.0
    ∷ 7 when ltb largest_count columns.0
    ∷ 7 when leb z.height rows.0
    ∷ 7 when leb z.width columns.0
    ∷ 8 when ltb out (picture_bytes (left_size z rows columns))
    ∷ 8 when ltb work (retarget_bytes z)
    ∷ []

-- A retarget is refused as the picture is, and by its counts and spaces.
abbrev pub retarget_rules : Size → Rows → Columns → ℕ → ℕ → ℕ → List Rule
retarget_rules z rows columns bytes out work = size_rules z bytes ++ count_rules z rows columns out work

-- "The smaller total is chosen; on a tie the vertical cut."
abbrev pub chosen_axis : ℕ → ℕ → Axis
chosen_axis vertical horizontal = cond (leb vertical horizontal) Vertical Horizontal
