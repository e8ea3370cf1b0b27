-- `text_lengths::further_digits` meets its contract. The loop's invariant: what is counted, and what is yet to be counted, make the whole. The
-- measure is the length of the rest.
use Rattle.std.proofs.Common.{◌≡◌, ◌+◌, ◌*◌, ◌≤◌, length}
use Rattle.text_lengths.specs.Inner.{further_digits}
use Rattle.text_lengths.proofs.further_digits.Given as goal

abbrev pub invariant-loop-rest : goal.invariant-loop-rest
invariant-loop-rest l =
    (further_digits l.samples ≡ l.count + further_digits l.rest) × (l.count + 2 * length l.rest ≤ 2 * length l.samples)

abbrev pub decreases-loop-rest : goal.decreases-loop-rest
decreases-loop-rest l = length l.rest
