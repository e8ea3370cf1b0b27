-- `energy::forward::step_block` meets its contract: what a pixel costs is the sum of what its samples cost.
use Rattle.std.proofs.Common.{◌≡◌, ℕ, ◌*◌, length, sym, ap, ◌∙◌, List}
use lib.ListN.{replicate, length-replicate}
use Rattle.grids.specs.Table.{table}
use Rattle.energy.specs.Inner.{DistancesNeeded, sample_apart, two_sums, two_distances}
use Rattle.energy.proofs.Samples.{distances_are, left_rows, up_rows, right_rows}
use Rattle.energy.proofs.forward.step_block.Goals as goal

-- One of the three, from two rows of distances of samples that were worked out into whole arrays.
cost : (n pixels samples width : ℕ) (a b c d first second sums : List ℕ) (room : ℕ) {out : List ℕ} → out ≡ sums → sums ≡ table (two_sums n first second) room
    → room ≡ pixels → first ≡ table (sample_apart a b) (length (replicate {A = ℕ} samples 0)) → second ≡ table (sample_apart c d) (length (replicate {A = ℕ} samples 0))
    → samples ≡ pixels * n → width ≡ pixels → DistancesNeeded a b c d (width * n) → out ≡ table (two_distances n a b c d) pixels
cost n pixels samples width a b c d first second sums room is in_sums all in_first in_second many one rows =
    let long : length (replicate {A = ℕ} samples 0) ≡ width * n = length-replicate samples 0 ∙ many ∙ ap (◌* n) (sym one) in
    is
    ∙ distances_are n a b c d first second (width * n) pixels
    (in_sums ∙ ap (table (two_sums n first second)) all)
    (in_first ∙ ap (table (sample_apart a b)) long)
    (in_second ∙ ap (table (sample_apart c d)) long)
    (ap (◌* n) one) rows

pub returns-clause-left : goal.returns-clause-left
returns-clause-left g c =
    let a = c.args in
    cost g.row.N g.row.PIXELS g.row.SAMPLES (length a.left.now) a.after.now a.before.now a.above.now a.before.now _ _ _ _ c.widen.ensures c.pixel_sums.ensures
    (length-replicate {A = ℕ} g.row.PIXELS 0) c.samples_apart.ensures c.samples_apart-2.ensures c.requires.block.samples_are c.requires.one
    (left_rows c.requires.rows)

pub returns-clause-up : goal.returns-clause-up
returns-clause-up g c =
    let a = c.args in
    cost g.row.N g.row.PIXELS g.row.SAMPLES (length a.left.now) a.after.now a.before.now a.before.now a.before.now _ _ _ _ c.widen-2.ensures c.pixel_sums-2.ensures
    (c.pixel_sums.auto.out ∙ length-replicate {A = ℕ} g.row.PIXELS 0) c.samples_apart.ensures c.samples_apart-3.ensures c.requires.block.samples_are c.requires.one
    (up_rows c.requires.rows)

pub returns-clause-right : goal.returns-clause-right
returns-clause-right g c =
    let a = c.args in
    cost g.row.N g.row.PIXELS g.row.SAMPLES (length a.left.now) a.after.now a.before.now a.above.now a.after.now _ _ _ _ c.widen-3.ensures c.pixel_sums-3.ensures
    (c.pixel_sums-2.auto.out ∙ c.pixel_sums.auto.out ∙ length-replicate {A = ℕ} g.row.PIXELS 0) c.samples_apart.ensures c.samples_apart-4.ensures
    c.requires.block.samples_are c.requires.one (right_rows c.requires.rows)
