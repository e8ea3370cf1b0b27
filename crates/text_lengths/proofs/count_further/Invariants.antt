-- `text_lengths::count_further` meets its contract. The loop's invariant: what is counted, and what is yet to be counted, make the whole.
use Rattle.std.proofs.Common.{◌≡◌, ◌+◌, ◌*◌, ◌≤◌, drop}
use Rattle.text_lengths.specs.Inner.{further_digits}
use Rattle.text_lengths.proofs.count_further.Given as goal

abbrev pub invariant-loop-sample : goal.invariant-loop-sample
invariant-loop-sample l =
    (further_digits l.part ≡ l.count + further_digits (drop l.sample-index l.part)) × (l.count ≤ 2 * l.sample-index)
