-- `energy::kernels::inner_energies` meets its contract: the pixel at place k of the row without its first is pixel k + 1.
use Rattle.std.proofs.Common.{◌+◌, ap, ◌∙◌, length}
use Rattle.grids.proofs.Parts.{last_part}
use Rattle.grids.proofs.Rows.{row_at-drop}
use Rattle.grids.proofs.Tables.{table_same}
use Rattle.grids.specs.Rows.{row_at}
use Rattle.energy.specs.Energy.{difference}
use Rattle.energy.specs.Inner.{energy_between}
use Rattle.energy.proofs.kernels.inner_energies.Goals as goal

pub returns : goal.returns
returns g c =
    let a = c.args in
    let n = g.row.N in
    let it = a.it.now in
    let lower = a.lower.now in
    c.distances.ensures
    ∙ table_same _ (λ k. energy_between n it lower k (k + 1)) (length a.out.now)
    (λ k l.
    ap (λ x. difference x (row_at n k it) + difference (row_at n k lower) (row_at n k it))
    (ap (row_at n k) (last_part n it) ∙ row_at-drop n k it))
