-- `seam_close::rows::close_pixels` meets its contract: pixels are cells of bytes, and the cells left are the pixels left.
use Rattle.std.proofs.Common.{ℕ, get_or, arith, rules, Fits, w8}
use Rattle.seam_close.proofs.Closing.{cells_needed, pixels_closed}
use Rattle.seam_close.proofs.rows.close_pixels.Goals as goal

pub close_rows-requires : goal.close_rows-requires
close_rows-requires c = cells_needed c.args.size c.args.picture.now c.args.seam.now c.requires _ c.pixel_bytes.ensures

pub returns : goal.returns
returns c =
    let fits : (i : ℕ) → Fits w8 (get_or c.args.picture.now i 0) = search rules in
    pixels_closed c.args.size c.args.picture.now c.args.seam.now c.requires _ c.pixel_bytes.ensures (λ i. omega (arith, fits i)) _ c.close_rows.ensures
