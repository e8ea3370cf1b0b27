-- `energy::forward::pad` meets its contract: the three parts that are copied make the row.
use Rattle.std.proofs.Common.{◌-◌, length, ◌∙◌}
use Rattle.grids.proofs.Parts.{last_part}
use Rattle.energy.proofs.Padded.{padded_is}
use Rattle.energy.proofs.forward.pad.Goals as goal

pub returns : goal.returns
returns g c =
    let it = c.args.it.now in
    padded_is g.row.N it c.args.wide.now _ _ _ c.requires.some c.copy_from_slice.ensures.after c.copy_from_slice-2.ensures.after
    (c.copy_from_slice-3.ensures.after ∙ last_part (length it - g.row.N) it)
