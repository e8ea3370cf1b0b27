-- `seam_keep::rows::refresh_rows` meets its contract. The loop's invariant: r rows have the costs beside the seam, and after them
-- stands what stood there.
use Rattle.seam_planes.specs.Planes.{numbers_of}
use Rattle.seam_keep.specs.Inner.{refreshed_at}
use Rattle.seam_keep.proofs.Lined.{NumbersPut}
use Rattle.seam_keep.proofs.rows.refresh_rows.Given as goal

abbrev pub invariant-loop-r : goal.invariant-loop-r
invariant-loop-r l =
    let p = l.picture in
    let z = p.size in
    NumbersPut (refreshed_at l.method l.from z p.width p.bytes.now l.seam (numbers_of z.width z.height l.fn.plane)) z.width z.height l.fn.plane l.r l.plane
