-- `map_show::pixels::put_mean` meets its contract.
use mathlib.Core.Path.{◌≡◌, ap₂, ◌∙◌}
use Rattle.grids.specs.Rows.{row_at}
use Rattle.map_theory.specs.Widths.{average}
use Rattle.map_show.proofs.Filling.{part-put}
use Rattle.map_show.proofs.Places.{length_part}
use Rattle.map_show.proofs.Samples.{length-average}
use Rattle.map_show.proofs.pixels.put_mean.Goals as goal

pub returns : goal.returns
returns g c =
    let a = c.args in
    let n = g.row.N in
    let p = row_at n a.c a.samples.now in
    let q = row_at n a.d a.samples.now in
    let put : c.put_means.new.out ≡ average p q = c.put_means.ensures ∙ ap₂ average c.pixel_at.ensures c.pixel_at-2.ensures in
    rw put
    (part-put a.at n a.out.now (average p q) c.requires.room
    (length-average n p q (length_part n a.samples.now a.c c.requires.inside) (length_part n a.samples.now a.d c.requires.beside)))
