-- `map_check::numbers::has_each_once` meets its contract: the counts of 1 to the depth are judged one after the other.
use Rattle.std.proofs.Common.{rules, ◌≡◌, ◌∙◌, ◌+◌, ◌-◌, arith, take, drop}
use borrow.Author.Tests.{tests}
use lib.Dec.{eqb}
use Rattle.std.proofs.lemmas.Iterator.{YieldsList-from_slice}
use Rattle.std.proofs.lemmas.Iterator.Search.{all_from_yields_List}
use Rattle.map_check.proofs.Counting.{all-run}
use Rattle.map_check.proofs.numbers.has_each_once.Goals as goal

pub returns : goal.returns
returns c =
    let a = c.args in
    let k : a.depth + 1 - 1 ≡ a.depth = omega arith in
    all_from_yields_List (λ x. eqb x 1) _ _ _ c.all.ensures.ran (YieldsList-from_slice (take (a.depth + 1 - 1) (drop 1 a.seen.now)) c.iter.ensures.rest) (λ x b q k. search (rules, tests))
    ∙ rw k (all-run (λ x. eqb x 1) a.seen.now 1 a.depth (omega (arith, c.requires)))
