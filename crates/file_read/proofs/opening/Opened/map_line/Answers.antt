-- Reading a map line meets its contract: whichever map line stands at the place fills the space.
use Rattle.std.proofs.Common.{sym, ◌∙◌}
use Rattle.file_read.proofs.Parsed.{opened}
use Rattle.file_read.proofs.Places.{map_there, map-row-long}
use Rattle.file_read.proofs.opening.Opened.map_line.Goals as goal

pub returns : goal.returns
returns c =
    let f = c.args.self.now in
    let k = opened f.text.now f.head f.open in
    λ r inside there.
    let m = c.known_map.ensures.line _ _ (map_there k r inside c.args.at.at there) (map-row-long k r inside ∙ sym c.requires) in
    record { next = m.1; numbers = m.0 }
