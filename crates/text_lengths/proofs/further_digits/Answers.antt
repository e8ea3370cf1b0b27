-- `text_lengths::further_digits` meets its contract: a part more is counted, and fewer samples are left.
use Rattle.std.proofs.Common.{◌≡◌, ◌+◌, ◌*◌, ◌≤◌, length, take, drop, List, ℕ, [], ◌∷◌, refl, sym, ap, ap₂, ◌∙◌, arith, rules}
use lib.ListN.{take-append-drop}
use Rattle.text_lengths.specs.Inner.{further_digits}
use Rattle.text_lengths.proofs.Counted.{further_parts, further_most}
use Rattle.text_lengths.proofs.further_digits.Goals as goal
use Rattle.text_lengths.proofs.further_digits.Goals.{After-count_further}

-- The part and what comes after it make the rest.
parted : (c : After-count_further) → further_digits c.loop-rest.rest.now ≡ further_digits c.split_at.result.0.now + further_digits c.split_at.result.1.now
parted c =
    let rest = c.loop-rest.rest.now in
    ap further_digits (sym (take-append-drop c.min.result rest))
    ∙ further_parts (take c.min.result rest) (drop c.min.result rest)
    ∙ ap₂ (λ a b. further_digits a + further_digits b) (sym c.split_at.ensures.front) (sym c.split_at.ensures.back)

pub overflow_add-count : goal.overflow_add-count
overflow_add-count c =
    let most = further_most c.split_at.result.0.now in
    let few : c.loop-rest.count + c.count_further.result ≤ 2 * length c.args.samples.now =
    omega (arith, c.count_further.ensures, most, c.loop-rest.invariant.1, c.split_at.ensures.front_len, c.split_at.ensures.back_len, c.min.ensures) in
    search rules

pub loop-rest-preserved : goal.loop-rest-preserved
loop-rest-preserved c =
    let most = further_most c.split_at.result.0.now in (
      omega (arith, c.loop-rest.invariant.0, c.count_further.ensures, parted c),
      omega (arith, c.count_further.ensures, most, c.loop-rest.invariant.1, c.split_at.ensures.front_len, c.split_at.ensures.back_len, c.min.ensures),
    )

-- Nothing is left.
none_left : (b : List ℕ) → length b ≡ 0 → further_digits b ≡ 0
none_left [] e = refl
none_left (x ∷ b) e = absurd (omega arith)

pub returns : goal.returns
returns c =
    let empty : length c.loop-rest.rest.now ≡ 0 = search rules in (
      omega (arith, c.loop-rest.invariant.0, none_left c.loop-rest.rest.now empty),
      omega (arith, c.loop-rest.invariant.1),
    )
