-- `energy::kernels::block` meets its contract: what a pixel has is the sum of what its samples have.
use Rattle.std.proofs.Common.{ℕ, ap, ◌∙◌}
use lib.ListN.{length-replicate}
use Rattle.grids.specs.Table.{table}
use Rattle.energy.specs.Inner.{sample_apart, two_sums}
use Rattle.energy.proofs.Samples.{distances_are}
use Rattle.energy.proofs.kernels.block.Goals as goal

pub returns : goal.returns
returns g c =
    let a = c.args in
    let n = g.row.N in
    let samples = length-replicate {A = ℕ} g.row.SAMPLES 0 in
    let first = c.samples_apart.new.out in
    let second = c.samples_apart-2.new.out in
    c.widen.ensures
    ∙ distances_are n a.a.now a.b.now a.c.now a.d.now first second g.row.SAMPLES g.row.PIXELS
    (c.pixel_sums.ensures ∙ ap (table (two_sums n first second)) (length-replicate {A = ℕ} g.row.PIXELS 0))
    (c.samples_apart.ensures ∙ ap (table (sample_apart a.a.now a.b.now)) samples)
    (c.samples_apart-2.ensures ∙ ap (table (sample_apart a.c.now a.d.now)) samples)
    c.requires.block.samples_are c.requires.rows
