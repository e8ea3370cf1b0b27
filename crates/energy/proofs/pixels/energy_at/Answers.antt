-- `energy::pixels::energy_at` meets its contract: the three places lie within the picture, and are those of the pixel and of what stands
-- for its neighbours.
use Rattle.std.proofs.Common.{◌+◌, ap₂, ◌∙◌, arith}
use Rattle.energy.proofs.Places.{asked_sized, place_end, lower_end, energy_there}
use Rattle.energy.proofs.pixels.energy_at.Goals as goal

pub pixels_apart-requires-2-clause-inside : goal.pixels_apart-requires-2-clause-inside
pixels_apart-requires-2-clause-inside g c =
    let a = c.args in
    let q = c.requires.asked in (
      rw c.neighbour-2.ensures (lower_end a.size a.picture.now a.width a.r a.c g.row.N q a.rule c.requires.rule),
      place_end a.size a.picture.now (asked_sized q) g.row.N q.channels a.r a.c q.row (omega (arith, q.left, q.column)),
    )

pub returns : goal.returns
returns g c =
    let a = c.args in
    ap₂ ◌+◌ c.pixels_apart.ensures.0 c.pixels_apart-2.ensures.0
    ∙ rw (c.neighbour.ensures, c.neighbour-2.ensures) (energy_there a.size a.picture.now a.width a.r a.c g.row.N c.requires.asked a.rule c.requires.rule)
