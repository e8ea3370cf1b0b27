-- `map_show::pixels::copy_pixel` meets its contract. The loop's invariant: the samples before sample i stand at the front of out.
use Rattle.grids.proofs.Tables.{Copied}
use lib.ListN.{length}
use Rattle.map_show.proofs.pixels.copy_pixel.Given as goal

abbrev pub invariant-loop-i : goal.invariant-loop-i
invariant-loop-i l = Copied l.pixel l.initial.out 0 (length l.initial.out) l.i l.out
