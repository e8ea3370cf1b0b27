-- `map_build::carving::fill_columns` meets its contract. The invariant: the first r rows have the columns of the picture.
use Rattle.grids.specs.Table.{table}
use Rattle.seam_planes.proofs.Numbers.{RowsPut}
use Rattle.map_build.proofs.carving.fill_columns.Given as goal

abbrev pub invariant-loop-r : goal.invariant-loop-r
invariant-loop-r l = RowsPut (λ r. table (λ c. c) l.width) l.width l.height l.initial.columns l.r l.columns
