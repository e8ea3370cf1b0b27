-- The row that is shown fills its part. No method joins the last column to the first.
use mathlib.Core.Path.{refl}
use Rattle.energy.specs.Methods.{wrap_of}
use Rattle.file_read.proofs.ShownRows.{row_is_ok, row_drawn}
use Rattle.file_read.proofs.widths.ShownLinesLinesU8.part.Goals as goal

pub unwrap-requires : goal.unwrap-requires
unfolding wrap_of
unwrap-requires c =
    let s = c.args.self.now in
    row_is_ok s.file.open s.shown c.requires.inside (c.map_line-next.ensures c.args.r c.requires.inside c.requires.there) _ c.pixel_bytes.ensures refl c.requires.fits c.row_at.ensures

pub returns-clause-filled : goal.returns-clause-filled
unfolding wrap_of
returns-clause-filled c =
    let s = c.args.self.now in
    row_drawn s.file.open s.shown c.requires.inside (c.map_line-next.ensures c.args.r c.requires.inside c.requires.there) _ c.pixel_bytes.ensures refl c.requires.fits c.row_at.ensures
