-- `energy::row_steps` meets its contract: the row above ends where the row begins, and what is taken is what the row's steps cost.
use Rattle.std.proofs.Common.{◌*◌, ap, ◌∙◌}
use Rattle.pictures.proofs.Limits.{sized_is}
use Rattle.energy.proofs.Meeting.{left-row, up-row, right-row}
use Rattle.energy.proofs.row_steps.Goals as goal

pub returns-clause-left : goal.returns-clause-left
returns-clause-left c =
    let a = c.args in
    c.steps.ensures.left
    ∙ left-row a.size a.picture.now (sized_is a.size _ c.requires.sized) a.r _ c.requires.inside (ap (a.size.width *◌) c.pixel_bytes.ensures) c.requires.later c.requires.left_room

pub returns-clause-up : goal.returns-clause-up
returns-clause-up c =
    let a = c.args in
    c.steps.ensures.up
    ∙ up-row a.size a.picture.now (sized_is a.size _ c.requires.sized) a.r _ c.requires.inside (ap (a.size.width *◌) c.pixel_bytes.ensures) c.requires.up_room

pub returns-clause-right : goal.returns-clause-right
returns-clause-right c =
    let a = c.args in
    c.steps.ensures.right
    ∙ right-row a.size a.picture.now (sized_is a.size _ c.requires.sized) a.r _ c.requires.inside (ap (a.size.width *◌) c.pixel_bytes.ensures) c.requires.later c.requires.right_room
