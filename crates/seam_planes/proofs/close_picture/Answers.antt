-- `seam_planes::close_picture` meets its contract: a pixel is what its cell of bytes is.
use Rattle.std.proofs.Common.{◌-◌}
use Rattle.seam_planes.proofs.Elements.{picture_cut}
use Rattle.seam_planes.proofs.close_picture.Goals as goal

pub returns-clause-closed : goal.returns-clause-closed
returns-clause-closed c needed =
    let a = c.args in
    picture_cut a.size _ (a.width - 1) a.width a.seam.now a.picture.now c.close_rows.new.plane c.pixel_bytes.ensures needed.columns c.close_rows.ensures.closed
