-- The numbers so far, and the rest of the row.
use Rattle.std.proofs.Common.{◌≡◌, ◌+◌, ◌++◌, drop}
use Rattle.grids.specs.Table.{table}
use Rattle.file_build.proofs.fitting.put_order.Given as goal

abbrev pub invariant-loop-t : goal.invariant-loop-t
invariant-loop-t l = l.row ≡ table (λ i. i + 1) l.t ++ drop l.t l.initial.row
