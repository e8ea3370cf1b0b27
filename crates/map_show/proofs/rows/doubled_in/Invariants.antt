-- `map_show::rows::doubled_in` meets its contract. The loop's invariant: what was counted and what is to come make the count.
use mathlib.Core.Path.{◌≡◌}
use Prim.Native.Nat.{◌+◌, ◌≤◌}
use lib.ListN.{drop}
use Rattle.map_theory.specs.Judged.{doubled_in}
use Rattle.map_show.proofs.rows.doubled_in.Given as goal

abbrev pub invariant-loop-number : goal.invariant-loop-number
invariant-loop-number l = (l.count ≤ l.number-index) × (l.count + doubled_in l.u (drop l.number-index l.numbers) ≡ doubled_in l.u l.numbers)
