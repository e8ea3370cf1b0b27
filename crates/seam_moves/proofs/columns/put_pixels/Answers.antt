-- `seam_moves::columns::put_pixels` meets its contract, at each kind: pixels are cells of bytes, and the cells moved are the pixels moved.
use Rattle.std.proofs.Common.{ap, sym, arith}
use Rattle.pictures.specs.Pictures.{pixel_bytes}
use Rattle.seam_moves.proofs.Exchanging.{column_needed, pixels_put}
use Rattle.seam_moves.proofs.columns.put_pixels.Goals as goal

pub put_cells-requires : goal.put_cells-requires
unfolding pixel_bytes
put_cells-requires c = column_needed c.args.size c.args.from.now 1 (sym (ap pixel_bytes c.in-Grey.is)) c.args.c c.args.out.now c.requires

pub returns-in-Grey : goal.returns-in-Grey
unfolding pixel_bytes
returns-in-Grey c =
    pixels_put c.args.size c.args.from.now 1 (sym (ap pixel_bytes c.in-Grey.is)) c.requires.sized (λ i. omega (arith, c.type_inv.from i)) _ _ c.args.c c.requires.inside c.put_cells.ensures

pub put_cells-requires-in-Rgb : goal.put_cells-requires-in-Rgb
unfolding pixel_bytes
put_cells-requires-in-Rgb c = column_needed c.args.size c.args.from.now 3 (sym (ap pixel_bytes c.in-Rgb.is)) c.args.c c.args.out.now c.requires

pub returns-in-Rgb : goal.returns-in-Rgb
unfolding pixel_bytes
returns-in-Rgb c =
    pixels_put c.args.size c.args.from.now 3 (sym (ap pixel_bytes c.in-Rgb.is)) c.requires.sized (λ i. omega (arith, c.type_inv.from i)) _ _ c.args.c c.requires.inside c.put_cells-in-Rgb.ensures
