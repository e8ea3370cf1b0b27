-- `map_check::numbers::is_numbering` meets its contract. The invariant: the numbers counted and those to come make the counts of the
-- row, and the numbers to come decide whether one is over the depth.
use mathlib.Core.Path.{◌≡◌}
use lib.Dec.{leb}
use lib.ListN.{length}
use Rattle.std.specs.Slice.Iter.{chunks_exact_rest, chunks_exact_size}
use Rattle.map_theory.specs.Judged.{every}
use Rattle.pictures.specs.Numbers.{numbers_in}
use Rattle.pictures.specs.Pictures.{largest_side}
use Rattle.map_check.proofs.Counting.{Counted}
use Rattle.map_check.proofs.numbers.is_numbering.Given as goal

abbrev pub invariant-loop-pair : goal.invariant-loop-pair
invariant-loop-pair l =
    (chunks_exact_size l.pair-iterator ≡ 2) × (length l.seen ≡ largest_side)
    × Counted largest_side l.seen (numbers_in (chunks_exact_rest l.pair-iterator)) (numbers_in l.row)
    × (every (λ v. leb v l.depth) (numbers_in (chunks_exact_rest l.pair-iterator)) ≡ every (λ v. leb v l.depth) (numbers_in l.row))
