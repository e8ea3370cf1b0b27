-- The picture is copied, its map built after it, and the file printed from both.
use Rattle.file_build.proofs.Answers.{map_is_ok, text-room, file-given}
use Rattle.file_build.proofs.put_file.Goals as goal

pub unwrap-requires : goal.unwrap-requires
unwrap-requires c =
    let o = c.copy_from_slice in
    map_is_ok _ _ _ _ c.requires _ o.ensures.after o.auto.self c.map_in.ensures

pub print_file-length-requires : goal.print_file-length-requires
print_file-length-requires c =
    let o = c.copy_from_slice in
    record { room = text-room _ _ _ _ c.requires _ o.ensures.after o.auto.self c.map_in.ensures c.map_at.ensures c.recorded_at.ensures }

pub returns : goal.returns
returns c =
    let o = c.copy_from_slice in
    let p = c.print_file-length.ensures in
    file-given _ _ _ _ c.requires _ o.ensures.after o.auto.self c.map_in.ensures c.map_at.ensures c.recorded_at.ensures
    c.map_in.auto.space p.length_is p.out_is c.clear.ensures
