-- `seam_objects::cut_front` meets its contract.
use Rattle.std.proofs.Common.{◌≤◌}
use Rattle.pictures.specs.Pictures.{largest_side, picture_bytes, pixels, work_bytes}
use Rattle.pictures.proofs.Limits.{sides_are, given_out}
use Rattle.seam_objects.proofs.Front.{front_cut}
use Rattle.seam_objects.proofs.cut_front.Goals as goal

pub returns : goal.returns
returns c =
    let z = c.args.size in
    let how = c.args.method in
    let need = c.requires in
    -- what is lent of each buffer
    let bytes_are = given_out z c.picture_bytes-bytes.result (picture_bytes z) need.sides c.picture_bytes-bytes.ensures in
    let pixels-are = given_out z c.pixels-pixels.result (pixels z) need.sides c.pixels-pixels.ensures in
    let room_is = given_out z c.work_bytes-room.result (work_bytes z) need.sides c.work_bytes-room.ensures in
    let tall : z.height ≤ largest_side = (sides_are z need.sides).height_most in
    let q = c.cut_uncleared in
    let told = q.ensures.cut in
    -- it is told by the answer whether a seam was cut
    front_cut how need bytes_are pixels-are room_is tall q.result told.number q.new.picture q.new.marks
    told.picture_left told.marks_left
