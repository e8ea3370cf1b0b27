use mathlib.Core.Path.{sym, ◌∙◌}
use Rattle.std.proofs.Common.{[], ◌∷◌, ◌+◌, ◌/◌, ◌%◌}
use Rattle.text_theory.specs.Decimal.{digits}
use Rattle.text_theory.proofs.Decimals.{digits_small, digits-large}
use Rattle.text_lengths.proofs.Sinks.{further, no_further, puts_one}
use Rattle.text_print.specs.Outs.{out_takes}
use Rattle.text_print.proofs.printing.Out.+digits.Goals as goal

pub returns-then-n-lt10 : goal.returns-then-n-lt10
returns-then-n-lt10 t c = rw (digits_small c.args.n c.if-n-lt10.true) (c.byte.ensures ∙ sym (puts_one out_takes c.args.self (48 + c.args.n)))

pub returns-in_err-digits : goal.returns-in_err-digits
returns-in_err-digits t c =
    rw (digits-large c.args.n c.if-n-lt10.false)
    (c.from_residual.ensures ∙ no_further out_takes c.args.self (digits (c.args.n / 10)) ((48 + c.args.n % 10) ∷ []) c.in_err-digits.ensures)

pub returns : goal.returns
returns t c =
    rw (digits-large c.args.n c.if-n-lt10.false)
    (c.byte-2.ensures ∙ sym (further out_takes c.args.self (digits (c.args.n / 10)) ((48 + c.args.n % 10) ∷ []) c.in_ok-digits.ensures ∙ puts_one out_takes _ (48 + c.args.n % 10)))
