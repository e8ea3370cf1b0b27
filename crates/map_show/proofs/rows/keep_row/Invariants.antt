-- `map_show::rows::keep_row` meets its contract. The loop's invariant: what was kept stands at the front of out, and from pixel c on
-- the row is still to come.
use mathlib.Core.Path.{◌≡◌}
use lib.ListN.{length}
use Rattle.map_show.proofs.Keeps.{Keeping}
use Rattle.map_show.proofs.rows.keep_row.Given as goal

abbrev pub invariant-loop-c : goal.invariant-loop-c
invariant-loop-c g l = (length l.out ≡ length l.initial.out) × Keeping g.row.N l.samples l.numbers l.t l.initial.out l.c l.out l.at
