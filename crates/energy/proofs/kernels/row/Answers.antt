-- `energy::kernels::row` meets its contract: the last pixel's energy is stored after those of the pixels before it.
use Rattle.std.proofs.Common.{◌≡◌, ◌++◌, ◌+◌, ◌-◌, length, take, drop, ap, ◌∙◌, arith}
use borrow.Author.Tests.{lt-ltb}
use lib.Seq.{length-take-le}
use Rattle.grids.specs.Table.{table}
use Rattle.grids.proofs.Tables.{table_same}
use Rattle.energy.specs.Inner.{between, energy_between}
use Rattle.energy.proofs.Lines.{line_last}
use Rattle.energy.proofs.kernels.row.Goals as goal

pub returns : goal.returns
unfolding between
returns g c =
    let a = c.args in
    let k = a.width - 1 in
    let f = between g.row.N a.it.now a.lower.now a.width a.beside in
    let short : length (take k a.out.now) ≡ k = length-take-le _ _ (omega (arith, c.requires.lines.room)) in
    let filled : c.inner_energies.new.out ≡ table f k =
    c.inner_energies.ensures
    ∙ ap (table (λ x. energy_between g.row.N a.it.now a.lower.now x (x + 1))) short
    ∙ table_same _ f k (λ x l. rw (lt-ltb (x + 1) a.width (omega (arith, l))))
    in
    line_last g.row.N a.it.now a.lower.now a.out.now (c.inner_energies.new.out ++ drop k a.out.now) a.width a.beside k (ap (◌++ drop k a.out.now) filled) _
    (omega (arith, c.requires.lines.some)) c.requires.lines.room c.energy_at.ensures
