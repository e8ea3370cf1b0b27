-- `text_lengths::after_samples` meets its contract: blanks and first digits, and then the further digits.
use Rattle.std.proofs.Common.{◌≡◌, ◌+◌, ◌*◌, length, sym, ap, ◌∙◌, arith}
use Rattle.text_theory.specs.Decimal.{digits}
use Rattle.text_theory.specs.Files.{blank, each}
use Rattle.text_lengths.specs.Rooms.{less}
use Rattle.text_lengths.proofs.Rooms.{less_is, less_none, less_after}
use Rattle.text_lengths.proofs.Counted.{samples-length}
use Rattle.text_lengths.proofs.after_samples.Goals as goal

pub returns-in_err-left : goal.returns-in_err-left
returns-in_err-left c =
    let xs = c.args.samples.now in
    let long = samples-length xs (λ i. omega (arith, c.type_inv.samples i)) in
    c.from_residual.ensures ∙ sym (less_none c.args.room _ (omega (arith, long, c.in_err-left.ensures)))

pub returns : goal.returns
returns c =
    let xs = c.args.samples.now in
    let long = samples-length xs (λ i. omega (arith, c.type_inv.samples i)) in
    let all : 2 * length xs + c.further_digits.result ≡ length (each blank digits xs) = omega (arith, long, c.further_digits.ensures.0) in
    less_is c.checked_sub-2.result c.in_ok-left.left c.further_digits.result c.checked_sub-2.ensures
    ∙ less_after c.args.room c.in_ok-left.left (2 * length xs) c.further_digits.result c.in_ok-left.ensures.0 c.in_ok-left.ensures.1
    ∙ ap (less c.args.room) all
