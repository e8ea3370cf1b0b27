-- `map_show::rows::grow_row` meets its contract. The loop's invariant: what was grown stands at the front of out, and from pixel c on
-- the row is still to come.
use mathlib.Core.Path.{◌≡◌}
use lib.ListN.{length}
use Rattle.map_show.proofs.Grows.{Growing}
use Rattle.map_show.proofs.rows.grow_row.Given as goal

abbrev pub invariant-loop-c : goal.invariant-loop-c
invariant-loop-c g l = (length l.out ≡ length l.initial.out) × Growing g.row.N l.wrap l.samples l.numbers l.u l.initial.out l.c l.out l.at
