-- `energy::row_energies` meets its contract: by forward the row's bytes lie within the picture, and what is taken across are its
-- energies.
use Rattle.std.proofs.Common.{◌+◌, ◌-◌, ◌*◌, ◌++◌, take, drop, sym, ap, ◌∙◌, length-take-le}
use Rattle.grids.specs.Table.{table}
use Rattle.pictures.specs.Pictures.{channels_of}
use Rattle.pictures.proofs.Limits.{sized_is}
use Rattle.energy.specs.Inner.{across_of}
use Rattle.energy.proofs.Meeting.{across-row}
use Rattle.energy.proofs.row_energies.Goals as goal

pub returns-else-has_one_cost : goal.returns-else-has_one_cost
returns-else-has_one_cost c =
    let a = c.args in
    let z = a.size in
    let s = z.width * c.pixel_bytes.result in
    let it = take (a.r * s + s - a.r * s) (drop (a.r * s) a.picture.now) in
    ap (◌++ drop z.width a.out.now)
    (c.across.ensures
    ∙ ap (table (across_of (channels_of z.kind) it)) (length-take-le z.width a.out.now c.requires.room)
    ∙ across-row z a.picture.now (sized_is z _ c.requires.sized) a.r s c.requires.inside (ap (z.width *◌) c.pixel_bytes.ensures) a.method
    (sym c.has_one_cost.ensures ∙ c.if-has_one_cost.false))
