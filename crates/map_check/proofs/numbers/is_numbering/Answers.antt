-- `map_check::numbers::is_numbering` meets its contract: no number counted yet, one over the depth, one more counted, and the end.
use mathlib.Core.Path.{◌≡◌, refl, sym, ap, ◌∙◌}
use mathlib.Core.Bool.{true}
use mathlib.Core.List.{[], ◌∷◌}
use Prim.Native.Nat.{◌+◌, ◌≤◌, ◌<◌}
use native.Mathlib.Omega.{arith}
use borrow.Author.Rules.{rules}
use lib.Dec.{leb}
use lib.ListN.{get_or}
use Rattle.std.specs.Slice.Iter.{chunks_exact_rest, chunks_exact_size}
use Rattle.map_theory.specs.Judged.{every}
use Rattle.pictures.specs.Numbers.{numbers_in}
use Rattle.pictures.specs.Pictures.{largest_side}
use Rattle.pictures.proofs.TwoBytes.{length-numbers}
use Rattle.map_check.proofs.Pairs.{numbers-next, numbers-none}
use Rattle.map_check.proofs.Counting.{counted_start, counted-few, counted-all, few-not, counts_judge, numbers-over}
use Rattle.map_check.proofs.numbers.is_numbering.Goals as goal
use Rattle.map_check.proofs.numbers.is_numbering.Goals.{After-number-v}

-- the number read is the first of those to come
read : (c : After-number-v) → numbers_in (chunks_exact_rest c.loop-pair.pair-iterator) ≡ c.number-v.result ∷ numbers_in (chunks_exact_rest c.next.new.self)
read c =
    let steps = c.in-Some.ensures.steps in
    numbers-next c.in-Some.pair.now _ steps.1.0 (steps.1.1 ∙ c.loop-pair.invariant.0) c.number-v.ensures.0

pub loop-pair-init : goal.loop-pair-init
loop-pair-init c =
    let row = c.args.row.now in
    let e : chunks_exact_rest c.into_iter-pair-iterator.result ≡ row = search rules in
    let n : chunks_exact_size c.into_iter-pair-iterator.result ≡ 2 = search rules in
    (n, refl, rw e (counted_start largest_side (numbers_in row)), rw e refl)

pub returns-then-depth-v : goal.returns-then-depth-v
returns-then-depth-v c =
    let a = c.args in
    let is = read (goal.at.returns-then-depth-v c).After-number-v in
    sym (numbers-over a.depth (numbers_in a.row.now) (sym c.loop-pair.invariant.3 ∙ few-not a.depth _ _ _ is c.if-depth-v.true))

pub overflow_add-seen : goal.overflow_add-seen
overflow_add-seen c =
    let a = c.args in
    let l = c.loop-pair in
    let v = c.number-v.result in
    let is = read (goal.at.overflow_add-seen c).After-number-v in
    let below : c.number-v.result < largest_side = omega (arith, c.requires.deep, c.if-depth-v.false) in
    let few : get_or l.seen c.number-v.result 0 + 1 ≤ largest_side =
    omega (arith, counted-few largest_side l.seen _ _ (numbers_in a.row.now) v is below l.invariant.2, length-numbers a.row.now, c.requires.short) in
    search rules

pub returns : goal.returns
returns c =
    let a = c.args in
    let l = c.loop-pair in
    let none : numbers_in (chunks_exact_rest l.pair-iterator) ≡ [] = numbers-none (chunks_exact_rest l.pair-iterator) (rw l.invariant.0 at c.in-None.ensures.steps.1.0) in
    let most : every (λ v. leb v a.depth) (numbers_in a.row.now) ≡ true = sym l.invariant.3 ∙ ap (every (λ v. leb v a.depth)) none in
    c.has_each_once.ensures
    ∙ counts_judge a.depth largest_side l.seen (numbers_in a.row.now) c.requires.deep (counted-all largest_side l.seen _ (numbers_in a.row.now) none l.invariant.2) most
