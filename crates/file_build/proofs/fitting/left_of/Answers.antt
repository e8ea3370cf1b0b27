-- The head and the rows, then the map lines, then the last line.
use mathlib.Core.Path.{sym, ◌∙◌}
use Rattle.file_build.proofs.Fits.{no_front, no_maps, whole}
use Rattle.file_build.proofs.fitting.left_of.Goals as goal

pub returns-in_err-maps : goal.returns-in_err-maps
returns-in_err-maps c =
    let s = c.args.source in
    c.from_residual.ensures ∙ no_front s.picture.now s.head s.sized s.deep c.args.room c.in_err-maps.ensures

pub returns-in_err-last : goal.returns-in_err-last
returns-in_err-last c =
    let s = c.args.source in
    c.from_residual-in_err-last.ensures
    ∙ no_maps s.picture.now s.head s.sized s.deep c.args.room c.order_row-row.result c.order_row-row.ensures c.in_ok-maps.maps c.in_ok-maps.ensures c.in_err-last.ensures

pub returns : goal.returns
returns c =
    let s = c.args.source in
    c.left_after-2.ensures
    ∙ sym (whole s.picture.now s.head s.sized s.deep c.args.room c.order_row-row.result c.order_row-row.ensures c.in_ok-maps.maps c.in_ok-maps.ensures c.in_ok-last.last c.in_ok-last.ensures)
