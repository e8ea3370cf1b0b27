-- `seam_moves::columns::exchange_pixels` meets its contract, at each kind: pixels are cells of bytes, and the cells moved are the pixels moved.
use Rattle.std.proofs.Common.{ap, sym, arith}
use Rattle.pictures.specs.Pictures.{pixel_bytes}
use Rattle.seam_moves.proofs.Exchanging.{cells_needed, pixels_exchanged}
use Rattle.seam_moves.proofs.columns.exchange_pixels.Goals as goal

pub exchange_cells-requires : goal.exchange_cells-requires
unfolding pixel_bytes
exchange_cells-requires c = cells_needed c.args.size c.args.from.now 1 (sym (ap pixel_bytes c.in-Grey.is)) c.args.to.now c.requires

pub returns-in-Grey : goal.returns-in-Grey
unfolding pixel_bytes
returns-in-Grey c =
    pixels_exchanged c.args.size c.args.from.now 1 (sym (ap pixel_bytes c.in-Grey.is)) c.requires.sized (λ i. omega (arith, c.type_inv.from i)) _ _ c.exchange_cells.ensures

pub exchange_cells-requires-in-Rgb : goal.exchange_cells-requires-in-Rgb
unfolding pixel_bytes
exchange_cells-requires-in-Rgb c = cells_needed c.args.size c.args.from.now 3 (sym (ap pixel_bytes c.in-Rgb.is)) c.args.to.now c.requires

pub returns-in-Rgb : goal.returns-in-Rgb
unfolding pixel_bytes
returns-in-Rgb c =
    pixels_exchanged c.args.size c.args.from.now 3 (sym (ap pixel_bytes c.in-Rgb.is)) c.requires.sized (λ i. omega (arith, c.type_inv.from i)) _ _ c.exchange_cells-in-Rgb.ensures
