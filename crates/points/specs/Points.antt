-- The points marked P, other worked values, and refusals of the example's files: what the definitions give, beside what is expected,
-- as rows of numbers. By `flat` the values are the specification's own, by `edge` they are made again by change 101, by `forward` by
-- change 103.
use Rattle.std.proofs.Math.Option.{Option, none, some}
use Rattle.std.specs.Prelude.{List, [], ◌∷◌, ◌++◌, map, ℕ}
use Rattle.grids.specs.Rows.{flat}
use Rattle.grids.specs.Cut.{cut}
use Rattle.pictures.specs.declared.sizes.Kind.TheVariants.{Grey}
use Rattle.pictures.specs.declared.sizes.Size.{Size}
use Rattle.pictures.specs.Refusals.{Rule, refusal}
use Rattle.pictures.specs.Pictures.{Picture, picture}
use Rattle.energy.specs.declared.methods.EnergyRule.TheVariants.{Edge, Flat, Forward}
use Rattle.energy.specs.declared.methods.Method.{Method}
use Rattle.energy.specs.Energy.{energies, energy_grid, left_costs, right_costs}
use Rattle.text_theory.specs.declared.Head.{Head}
use Rattle.text_theory.specs.Files.{text}
use Rattle.text_theory.specs.Example.{edge_text, flat_text, forward_text}
use Rattle.seam_theory.specs.PictureSeams.{seam_of, cost_of, marked_seam_of, marked_cost_of}
use Rattle.seam_rules.specs.declared.answers.Axis.TheVariants.{Horizontal}
use Rattle.seam_rules.specs.Counts.{row_count, column_count}
use Rattle.seam_rules.specs.declared.answers.Ending.{Ending}
use Rattle.seam_rules.specs.declared.answers.Ending.TheVariants.{Done, Narrow, Spent, Blocked}
use Rattle.seam_cut.specs.Axes.{seam_along, cost_along}
use Rattle.seam_objects.specs.Objects.{Removed, removal}
use Rattle.seam_objects.specs.Removing.{marked_picture}
use Rattle.seam_retarget.specs.Cells.{Cell, cell}
use Rattle.file_theory.specs.Contents.{parts_of, file_of}
use Rattle.file_theory.specs.Rules.{check_rules, show_rules}
use Rattle.file_theory.specs.Shows.{Drawn, shows}

-- A line of the table: what a definition gives, and what it should, as rows.
pub record Point : Type 0 where
  pub got : List (List ℕ)
  pub expected : List (List ℕ)

-- Lines whose answer is one list of numbers, one number, or the number given by rules: 0 where nothing is refused.
abbrev pub list : List ℕ → List ℕ → Point
list xs ys = record { got = xs ∷ []; expected = ys ∷ [] }

abbrev pub one : ℕ → ℕ → Point
one a b = list (a ∷ []) (b ∷ [])

abbrev pub gives : List Rule → ℕ → Point
gives rules n = one (refusal rules) n

abbrev pub grey : ℕ → ℕ → Size
grey w h = record { width = w; height = h; kind = Grey }

-- The methods, by their energy rule.
abbrev pub by_edge : Method
by_edge = record { energy = Edge }

abbrev pub by_flat : Method
by_flat = record { energy = Flat }

abbrev pub by_forward : Method
by_forward = record { energy = Forward }

-- The worked example: grey rows 10 10 40 and 10 50 40.
abbrev pub example : Picture
example = picture (grey 3 2) (10 ∷ 10 ∷ 40 ∷ 10 ∷ 50 ∷ 40 ∷ [])

-- Its marks: row 0, column 0 protected; row 1, column 2 to be removed.
abbrev pub example_marks : List (List ℕ)
example_marks = (1 ∷ 0 ∷ 0 ∷ []) ∷ (0 ∷ 0 ∷ 2 ∷ []) ∷ []

-- What coming to the pixels of row r costs from the left, from above and from the right.
abbrev pub step_rows : Method → ℕ → ℕ → Picture → ℕ → List (List ℕ)
step_rows how w h p r = left_costs how w h p r ∷ energies how w h p r ∷ right_costs how w h p r ∷ []

-- The example with a row and a column less.
abbrev pub smaller : Method → Cell
smaller how = cell how (grey 3 2) example (row_count 1) (column_count 1)

-- The file of a grey picture of w columns and h rows, of depth k and growth g.
abbrev pub grey_head : Method → ℕ → ℕ → ℕ → ℕ → Head
grey_head how w h k g = record { size = grey w h; method = how; depth = k; growth = g }

abbrev pub grey_file : Method → ℕ → ℕ → ℕ → ℕ → List ℕ → List ℕ
grey_file how w h k g b = file_of (grey_head how w h k g) (picture (grey w h) b)

-- The example's, of depth 2 and growth 1.
abbrev pub example_file : Method → List ℕ
example_file how = grey_file how 3 2 2 1 (10 ∷ 10 ∷ 40 ∷ 10 ∷ 50 ∷ 40 ∷ [])

-- The example's picture in a file of depth k and growth g with any two rows of the map.
abbrev pub recorded_file : Method → ℕ → ℕ → List ℕ → List ℕ → List ℕ
recorded_file how k g x y = text (record { head = grey_head how 3 2 k g; rows = example; maps = x ∷ y ∷ [] })

-- The rows of what is shown of a grey picture.
abbrev pub drawn_rows : Option Drawn → List (List ℕ)
drawn_rows none = []
drawn_rows (some d) = map flat d.rows

-- An ending by its place among the four, and its count.
abbrev pub place_of : Ending → ℕ
place_of Done = 1
place_of Narrow = 2
place_of Spent = 3
place_of Blocked = 4

abbrev pub ending_row : Removed → List ℕ
ending_row r = place_of r.ending ∷ r.count ∷ []

-- Points on which the rules agree.
abbrev pub shared_points : Method → List Point
shared_points how =
    -- 1 by 1: energy 0
    list (energies how 1 1 (picture (grey 1 1) (7 ∷ [])) 0) (0 ∷ [])
    -- 1 by 1: range 0 0 accepted
    ∷ gives (check_rules (grey_file how 1 1 0 0 (7 ∷ [])) 32) 0
    -- range 1 1 at width 2 accepted, range 1 2 refused by 6
    ∷ gives (check_rules (grey_file how 2 1 1 1 (10 ∷ 40 ∷ [])) 64) 0
    ∷ gives (check_rules (grey_file how 2 1 1 2 (10 ∷ 40 ∷ [])) 64) 6
    -- all samples equal, 3 by 1: map 1 2 0 at depth 2
    ∷ record { got = (parts_of (grey_head how 3 1 2 0) (picture (grey 3 1) (7 ∷ 7 ∷ 7 ∷ []))).maps; expected = (1 ∷ 2 ∷ 0 ∷ []) ∷ [] }
    -- budget 0 with a mark 2 at width 2: spent, 0
    ∷ list (ending_row (removal 0 0 (marked_picture (grey 2 1) how (10 ∷ 40 ∷ []) (0 ∷ 2 ∷ [])))) (place_of Spent ∷ 0 ∷ [])
    -- the example: widths 0 and 5 give 7
    ∷ gives (show_rules (example_file how) 0 10 192) 7
    ∷ gives (show_rules (example_file how) 5 10 192) 7
    -- the table of refusals, of the example: `(range 3 1)` at width 3; `(map 2 2 1)`; seam 1 at columns 0 and 2; maps 1 0 2 and
    -- 1 2 0
    ∷ gives (check_rules (recorded_file how 3 1 (1 ∷ 0 ∷ 2 ∷ []) (1 ∷ 0 ∷ 2 ∷ [])) 192) 6
    ∷ gives (check_rules (recorded_file how 2 1 (2 ∷ 2 ∷ 1 ∷ []) (1 ∷ 0 ∷ 2 ∷ [])) 192) 9
    ∷ gives (check_rules (recorded_file how 2 1 (1 ∷ 0 ∷ 2 ∷ []) (0 ∷ 2 ∷ 1 ∷ [])) 192) 10
    ∷ gives (check_rules (recorded_file how 2 1 (1 ∷ 0 ∷ 2 ∷ []) (1 ∷ 2 ∷ 0 ∷ [])) 192) 11
    ∷ []

-- Points by `edge`.
abbrev pub edge_points : List Point
edge_points =
    -- one row 10 40: each differs by 30 from the other; one column 10 / 50: by 40
    list (energies by_edge 2 1 (picture (grey 2 1) (10 ∷ 40 ∷ [])) 0) (30 ∷ 30 ∷ [])
    ∷ record { got = energy_grid by_edge 1 2 (picture (grey 1 2) (10 ∷ 50 ∷ [])); expected = (40 ∷ []) ∷ (40 ∷ []) ∷ [] }
    -- the example's energies: 0 70 30 / 40 50 10
    ∷ record { got = energy_grid by_edge 3 2 example; expected = (0 ∷ 70 ∷ 30 ∷ []) ∷ (40 ∷ 50 ∷ 10 ∷ []) ∷ [] }
    -- and coming to a pixel costs its energy from each side
    ∷ record { got = step_rows by_edge 3 2 example 1; expected = (40 ∷ 50 ∷ 10 ∷ []) ∷ (40 ∷ 50 ∷ 10 ∷ []) ∷ (40 ∷ 50 ∷ 10 ∷ []) ∷ [] }
    -- its first seam: columns 0, 0, cost 40
    ∷ list (seam_of by_edge 3 2 example) (0 ∷ 0 ∷ [])
    ∷ one (cost_of by_edge 3 2 example) 40
    -- its second, in the picture left: columns 1, 1, cost 40
    ∷ list (seam_of by_edge 2 2 (cut (0 ∷ 0 ∷ []) example)) (1 ∷ 1 ∷ [])
    ∷ one (cost_of by_edge 2 2 (cut (0 ∷ 0 ∷ []) example)) 40
    -- its horizontal seam: rows 0, 1, 1, cost 60
    ∷ list (seam_along by_edge Horizontal (grey 3 2) example) (0 ∷ 1 ∷ 1 ∷ [])
    ∷ one (cost_along by_edge Horizontal (grey 3 2) example) 60
    -- retargeted by 1 row and 1 column: 10 40, total 60
    ∷ record { got = map flat (smaller by_edge).picture; expected = (10 ∷ 40 ∷ []) ∷ [] }
    ∷ one (smaller by_edge).total 60
    -- its file in full
    ∷ list (example_file by_edge) edge_text
    -- width 2 is 10 40 / 50 40, width 1 is 10 / 50, width 4 is 10 10 10 40 / 10 30 50 40
    ∷ record { got = drawn_rows (shows (example_file by_edge) 2); expected = (10 ∷ 40 ∷ []) ∷ (50 ∷ 40 ∷ []) ∷ [] }
    ∷ record { got = drawn_rows (shows (example_file by_edge) 1); expected = (10 ∷ []) ∷ (50 ∷ []) ∷ [] }
    ∷ record { got = drawn_rows (shows (example_file by_edge) 4); expected = (10 ∷ 10 ∷ 10 ∷ 40 ∷ []) ∷ (10 ∷ 30 ∷ 50 ∷ 40 ∷ []) ∷ [] }
    -- its own map accepted, that of `flat` refused by 11: its first seam costs 40 too and comes later; and that of `forward`
    ∷ gives (check_rules (recorded_file by_edge 2 1 (1 ∷ 0 ∷ 2 ∷ []) (1 ∷ 0 ∷ 2 ∷ [])) 192) 0
    ∷ gives (check_rules (recorded_file by_edge 2 1 (2 ∷ 0 ∷ 1 ∷ []) (0 ∷ 2 ∷ 1 ∷ [])) 192) 11
    ∷ gives (check_rules (recorded_file by_edge 2 1 (1 ∷ 2 ∷ 0 ∷ []) (2 ∷ 1 ∷ 0 ∷ [])) 192) 11
    ∷ []

-- Points by `flat`.
abbrev pub flat_points : List Point
flat_points =
    -- one row 10 40: the last pixel has no difference; one column 10 / 50: nor has it there
    list (energies by_flat 2 1 (picture (grey 2 1) (10 ∷ 40 ∷ [])) 0) (30 ∷ 0 ∷ [])
    ∷ record { got = energy_grid by_flat 1 2 (picture (grey 1 2) (10 ∷ 50 ∷ [])); expected = (40 ∷ []) ∷ (0 ∷ []) ∷ [] }
    -- the example's energies: 0 70 0 / 40 10 0
    ∷ record { got = energy_grid by_flat 3 2 example; expected = (0 ∷ 70 ∷ 0 ∷ []) ∷ (40 ∷ 10 ∷ 0 ∷ []) ∷ [] }
    -- and coming to a pixel costs its energy from each side
    ∷ record { got = step_rows by_flat 3 2 example 1; expected = (40 ∷ 10 ∷ 0 ∷ []) ∷ (40 ∷ 10 ∷ 0 ∷ []) ∷ (40 ∷ 10 ∷ 0 ∷ []) ∷ [] }
    -- "first seam columns 2, 2 cost 0"
    ∷ list (seam_of by_flat 3 2 example) (2 ∷ 2 ∷ [])
    ∷ one (cost_of by_flat 3 2 example) 0
    -- "second, in the picture left, columns 0, 1 cost 0"
    ∷ list (seam_of by_flat 2 2 (cut (2 ∷ 2 ∷ []) example)) (0 ∷ 1 ∷ [])
    ∷ one (cost_of by_flat 2 2 (cut (2 ∷ 2 ∷ []) example)) 0
    -- its horizontal seam: rows 0, 1, 0, cost 10
    ∷ list (seam_along by_flat Horizontal (grey 3 2) example) (0 ∷ 1 ∷ 0 ∷ [])
    ∷ one (cost_along by_flat Horizontal (grey 3 2) example) 10
    -- retargeted by 1 row and 1 column: 10 10, total 0
    ∷ record { got = map flat (smaller by_flat).picture; expected = (10 ∷ 10 ∷ []) ∷ [] }
    ∷ one (smaller by_flat).total 0
    -- its file in full
    ∷ list (example_file by_flat) flat_text
    -- "width 2 is 10 10 / 10 50", "width 1 is 10 / 10", "width 4 is 10 10 25 40 / 10 50 45 40"
    ∷ record { got = drawn_rows (shows (example_file by_flat) 2); expected = (10 ∷ 10 ∷ []) ∷ (10 ∷ 50 ∷ []) ∷ [] }
    ∷ record { got = drawn_rows (shows (example_file by_flat) 1); expected = (10 ∷ []) ∷ (10 ∷ []) ∷ [] }
    ∷ record { got = drawn_rows (shows (example_file by_flat) 4); expected = (10 ∷ 10 ∷ 25 ∷ 40 ∷ []) ∷ (10 ∷ 50 ∷ 45 ∷ 40 ∷ []) ∷ [] }
    -- its own map accepted, those of `edge` and of `forward` refused by 11
    ∷ gives (check_rules (recorded_file by_flat 2 1 (2 ∷ 0 ∷ 1 ∷ []) (0 ∷ 2 ∷ 1 ∷ [])) 192) 0
    ∷ gives (check_rules (recorded_file by_flat 2 1 (1 ∷ 0 ∷ 2 ∷ []) (1 ∷ 0 ∷ 2 ∷ [])) 192) 11
    ∷ gives (check_rules (recorded_file by_flat 2 1 (1 ∷ 2 ∷ 0 ∷ []) (2 ∷ 1 ∷ 0 ∷ [])) 192) 11
    ∷ []

-- Points by `forward`.
abbrev pub forward_points : List Point
forward_points =
    -- one row 10 40: a pixel's neighbour and, past the side, itself differ by 30; one column 10 / 50: C_U is 0, and coming from a side
    -- would cost 40
    record { got = step_rows by_forward 2 1 (picture (grey 2 1) (10 ∷ 40 ∷ [])) 0; expected = (30 ∷ 30 ∷ []) ∷ (30 ∷ 30 ∷ []) ∷ (30 ∷ 30 ∷ []) ∷ [] }
    ∷ record { got = energy_grid by_forward 1 2 (picture (grey 1 2) (10 ∷ 50 ∷ [])); expected = (0 ∷ []) ∷ (0 ∷ []) ∷ [] }
    ∷ record { got = step_rows by_forward 1 2 (picture (grey 1 2) (10 ∷ 50 ∷ [])) 1; expected = (40 ∷ []) ∷ (0 ∷ []) ∷ (40 ∷ []) ∷ [] }
    -- the example's costs: in row 0 C_U, 0 30 30; in row 1 C_L 40 30 20, C_U 40 30 10, C_R 80 60 10
    ∷ record { got = step_rows by_forward 3 2 example 0; expected = (0 ∷ 30 ∷ 30 ∷ []) ∷ (0 ∷ 30 ∷ 30 ∷ []) ∷ (0 ∷ 30 ∷ 30 ∷ []) ∷ [] }
    ∷ record { got = step_rows by_forward 3 2 example 1; expected = (40 ∷ 30 ∷ 20 ∷ []) ∷ (40 ∷ 30 ∷ 10 ∷ []) ∷ (80 ∷ 60 ∷ 10 ∷ []) ∷ [] }
    -- its first seam: columns 0, 1, cost 30
    ∷ list (seam_of by_forward 3 2 example) (0 ∷ 1 ∷ [])
    ∷ one (cost_of by_forward 3 2 example) 30
    -- its second, in the picture left, 10 40 / 10 40: columns 0, 0, cost 60
    ∷ list (seam_of by_forward 2 2 (cut (0 ∷ 1 ∷ []) example)) (0 ∷ 0 ∷ [])
    ∷ one (cost_of by_forward 2 2 (cut (0 ∷ 1 ∷ []) example)) 60
    -- with its marks: columns 2, 2, cost 40
    ∷ list (marked_seam_of by_forward 3 2 example example_marks) (2 ∷ 2 ∷ [])
    ∷ one (marked_cost_of by_forward 3 2 example example_marks) 40
    -- its horizontal seam: rows 0, 0, 0, cost 40
    ∷ list (seam_along by_forward Horizontal (grey 3 2) example) (0 ∷ 0 ∷ 0 ∷ [])
    ∷ one (cost_along by_forward Horizontal (grey 3 2) example) 40
    -- retargeted by 1 row and 1 column: 10 40, total 30
    ∷ record { got = map flat (smaller by_forward).picture; expected = (10 ∷ 40 ∷ []) ∷ [] }
    ∷ one (smaller by_forward).total 30
    -- its file in full
    ∷ list (example_file by_forward) forward_text
    -- width 2 is 10 40 / 10 40, width 1 is 40 / 40, width 4 is 10 10 10 40 / 10 50 45 40
    ∷ record { got = drawn_rows (shows (example_file by_forward) 2); expected = (10 ∷ 40 ∷ []) ∷ (10 ∷ 40 ∷ []) ∷ [] }
    ∷ record { got = drawn_rows (shows (example_file by_forward) 1); expected = (40 ∷ []) ∷ (40 ∷ []) ∷ [] }
    ∷ record { got = drawn_rows (shows (example_file by_forward) 4); expected = (10 ∷ 10 ∷ 10 ∷ 40 ∷ []) ∷ (10 ∷ 50 ∷ 45 ∷ 40 ∷ []) ∷ [] }
    -- its own map accepted, those of `edge` and of `flat` refused by 11
    ∷ gives (check_rules (recorded_file by_forward 2 1 (1 ∷ 2 ∷ 0 ∷ []) (2 ∷ 1 ∷ 0 ∷ [])) 192) 0
    ∷ gives (check_rules (recorded_file by_forward 2 1 (1 ∷ 0 ∷ 2 ∷ []) (1 ∷ 0 ∷ 2 ∷ [])) 192) 11
    ∷ gives (check_rules (recorded_file by_forward 2 1 (2 ∷ 0 ∷ 1 ∷ []) (0 ∷ 2 ∷ 1 ∷ [])) 192) 11
    ∷ []

abbrev pub point_table : List Point
point_table =
    shared_points by_edge ++ (shared_points by_flat ++ (shared_points by_forward ++ (edge_points ++ (flat_points ++ forward_points))))
