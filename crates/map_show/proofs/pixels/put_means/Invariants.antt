-- `map_show::pixels::put_means` meets its contract. The loop's invariant: the means of the samples before sample i stand at the
-- front of out.
use Rattle.grids.proofs.Tables.{Stored}
use lib.ListN.{length}
use Rattle.map_show.proofs.Samples.{mean_at}
use Rattle.map_show.proofs.pixels.put_means.Given as goal

abbrev pub invariant-loop-i : goal.invariant-loop-i
invariant-loop-i l = Stored (mean_at l.a l.b) l.initial.out (length l.initial.out) l.i l.out
