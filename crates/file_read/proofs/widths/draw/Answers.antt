-- `file_read::widths::draw` meets its contract: the picture stands at the front of the work space when its rows are shown.
use Rattle.file_read.proofs.Drawing.{showing, out_room}
use Rattle.file_read.proofs.ShownRows.{whole_long}
use Rattle.file_read.proofs.widths.draw.Goals as goal

pub invariant_of-shown : goal.invariant_of-shown
invariant_of-shown c =
    let f = c.args.file in
    record { shown = showing f.text.now f.head f.open c.args.wanted _ c.args.work.now c.requires c.read_picture-maps.ensures }

pub fill-requires-clause-size : goal.fill-requires-clause-size
fill-requires-clause-size c =
    let f = c.args.file in
    whole_long f.open (showing f.text.now f.head f.open c.args.wanted _ c.args.work.now c.requires c.read_picture-maps.ensures)

pub fill-requires-clause-room : goal.fill-requires-clause-room
fill-requires-clause-room c =
    let f = c.args.file in
    out_room f.text.now f.head f.open c.args.wanted _ c.args.work.now c.requires
