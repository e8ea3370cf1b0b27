-- `seam_keep::rows::refresh_rows` meets its contract. The loop's invariant: r rows have the costs beside the seam, and after them
-- stands what stood there.
use Rattle.std.proofs.Common.{ap, ◌∙◌, refl, arith, [], ◌+◌, ◌*◌, ◌<◌, get_or}
use Rattle.seam_planes.specs.Planes.{numbers_of}
use Rattle.seam_keep.specs.Inner.{fresh_costs, refreshed_at, refreshed_row}
use Rattle.seam_keep.proofs.Kept.{row_wide}
use Rattle.seam_keep.proofs.Lined.{plane_rows, numbers_start, lent_numbers, lent_turn, numbers_end}
use Rattle.seam_keep.proofs.Placed.{refreshed_same}
use Rattle.seam_keep.proofs.rows.refresh_rows.Goals as goal

pub loop-r-init : goal.loop-r-init
loop-r-init c =
    let a = c.args in
    let p = a.picture.now in
    let z = p.size in
    let old = a.plane.now in
    let long = c.requires.room ∙ plane_rows z in
    numbers_start (refreshed_at a.method a.from z p.width p.bytes.now a.seam.now (numbers_of z.width z.height old)) z.width z.height
    (row_wide a.method a.from z p.width a.seam.now p.bytes.now old long) old long

pub loop-r-preserved : goal.loop-r-preserved
loop-r-preserved c =
    let a = c.args in
    let q = c.requires in
    let l = c.loop-r in
    let p = a.picture.now in
    let z = p.size in
    let s = a.seam.now in
    let old = a.plane.now in
    let row : l.r < z.height = omega (arith, c.loop-r-test.true, q.seam) in
    let at = l.r * (2 * z.width) in
    let end = at + 2 * z.width in
    let long = q.room ∙ plane_rows z in
    let k = numbers_of z.width z.height old in
    let f = refreshed_at a.method a.from z p.width p.bytes.now s k in
    let wide = row_wide a.method a.from z p.width s p.bytes.now old long in
    let lent = lent_numbers f z.width z.height wide old long l.r at end l.plane row refl refl l.invariant in
    let fresh = fresh_costs a.method a.from z p.width p.bytes.now l.r in
    let costs = c.costs_beside-costs.result in
    let same =
    refreshed_same p.width (get_or s l.r 0) costs.before costs.here fresh (get_or k l.r [])
    (λ some inside. c.costs_beside-costs.ensures.before row some inside)
    (λ inside. c.costs_beside-costs.ensures.here row inside) in
    let is = c.refresh_row.ensures ∙ ap (refreshed_row p.width (get_or s l.r 0) costs.before costs.here) lent ∙ same in
    lent_turn f z.width z.height wide old long l.r at end l.plane row refl refl l.invariant c.refresh_row.new.row c.refresh_row.auto.row is

pub returns : goal.returns
returns c =
    let a = c.args in
    let p = a.picture.now in
    let z = p.size in
    let old = a.plane.now in
    let long = c.requires.room ∙ plane_rows z in
    numbers_end (refreshed_at a.method a.from z p.width p.bytes.now a.seam.now (numbers_of z.width z.height old)) z.width z.height
    (row_wide a.method a.from z p.width a.seam.now p.bytes.now old long) old long c.loop-r.r c.loop-r.plane (omega (arith, c.requires.seam)) c.loop-r.invariant
