-- The points marked P hold: the definitions compute what the table expects.
use mathlib.Core.Path.{◌≡◌, refl}
use mathlib.Core.Option.{or_else}
use mathlib.Core.List.{map, zip_with, flat_map}
use Rattle.grids.specs.Exchange.{exchange}
use Rattle.grids.specs.Cut.{remove_at, cut}
use Rattle.seam_theory.specs.Best.{better, first_best}
use Rattle.seam_theory.specs.Paths.{run, select, paths_up, paths, cost, beside, nearby}
use Rattle.pictures.specs.Pictures.{pixel_bytes, row_in, samples_of, picture}
use Rattle.energy.specs.Methods.{wrap_of}
use Rattle.energy.specs.Around.{left_of, right_of, above_of, below_of}
use Rattle.energy.specs.Energy.{difference, costs_from, costs_at, toward}
use Rattle.seam_turn.specs.Axes.{turned, cut_along}
use Rattle.seam_cut.specs.Axes.{seam_along, cost_along}
use Rattle.seam_retarget.specs.Cells.{by_seam, chosen, cell_after}
use Rattle.map_theory.specs.Maps.{number_row, number}
use Rattle.map_theory.specs.Widths.{allowed, offered, stays, doubled, row_at_width, shown, middle, average}
use Rattle.map_theory.specs.Judged.{numbers, remains, before, connected, found}
use Rattle.text_theory.specs.Readers.{strip, next, many_up_to, many}
use Rattle.text_theory.specs.Decimal.{digits_up_to, digits, is_digit, further, up_to, number_get}
use Rattle.text_theory.specs.Words.{one_of, name_get, kind_text, kind_get, rule_text, rule_get}
use Rattle.text_theory.specs.Files.{line_end, blank, opening, closing, closed, begun, row_word, map_word, each, joined, pixel_text, line_text, first_text, size_text, range_text, energy_text, head_text, text, items, three, pixel_get, line, size_get, range_get, energy_get, head_get, file, whole, parse}
use Rattle.seam_theory.specs.PictureSeams.{seam_of, cost_of, marked_seam_of, marked_cost_of}
use Rattle.seam_theory.specs.Seams.{preferred}
use Rattle.seam_objects.specs.Objects.{some_two, removal}
use Rattle.file_theory.specs.Contents.{file_of}
use Rattle.file_theory.specs.Rules.{filled}
use Rattle.file_theory.specs.Shows.{shows}
use Rattle.points.specs.Points.{point_table}

pub points : map (λ p. p.got) point_table ≡ map (λ p. p.expected) point_table
unfolding exchange pixel_bytes picture row_in samples_of or_else left_of right_of above_of below_of difference wrap_of costs_from costs_at toward seam_of cost_of marked_seam_of marked_cost_of preferred seam_along cost_along turned cut_along by_seam chosen cell_after paths paths_up cost nearby beside select run better first_best remove_at cut zip_with flat_map some_two removal number_row number allowed offered stays doubled row_at_width shown numbers remains before connected found strip next many_up_to many digits_up_to digits is_digit further up_to number_get line_end blank opening closing closed begun row_word map_word one_of name_get kind_text kind_get rule_text rule_get each joined pixel_text line_text first_text size_text range_text energy_text head_text text items three pixel_get line size_get range_get energy_get head_get file whole parse middle average file_of filled shows
points = refl
