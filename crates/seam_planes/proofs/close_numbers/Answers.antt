-- `seam_planes::close_numbers` meets its contract: a number is what its cell of two bytes is.
use Rattle.std.proofs.Common.{◌-◌, arith}
use Rattle.seam_planes.proofs.Elements.{numbers_cut}
use Rattle.seam_planes.proofs.close_numbers.Goals as goal

pub returns-clause-closed : goal.returns-clause-closed
returns-clause-closed c needed =
    let a = c.args in
    numbers_cut a.stride (a.width - 1) a.width a.seam.now a.plane.now c.close_rows.new.plane (omega (arith, needed.long)) c.close_rows.ensures.long c.close_rows.ensures.closed
