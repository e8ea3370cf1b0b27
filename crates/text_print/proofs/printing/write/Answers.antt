-- There is room, so the sink is not left out, and it is the one that stands after the text.
use mathlib.Core.Path.{◌≡◌, ap, ◌∙◌}
use Rattle.std.proofs.Common.{rules}
use Rattle.text_print.specs.declared.printing.Out.{Out}
use Rattle.text_print.proofs.Written.{out_puts, after}
use Rattle.text_print.proofs.printing.write.Given.{Over}
use Rattle.text_print.proofs.printing.write.Goals.{After-unwrap}
use Rattle.text_print.proofs.printing.write.Goals as goal

stands : (g : Over) (c : After-unwrap g) → c.unwrap.result ≡ after (record { space = c.args.space; at = c.args.at }) (g.T.Text.text c.args.text.now)
stands g c = cc (c.put.ensures ∙ out_puts _ _ c.requires)

pub unwrap-requires : goal.unwrap-requires
unwrap-requires g c = rw (c.put.ensures ∙ out_puts _ _ c.requires) (search rules)

pub returns-clause-same_space : goal.returns-clause-same_space
returns-clause-same_space g c = ap (λ (o : Out). o.space.ghost_name) (stands g c)

pub returns-clause-written : goal.returns-clause-written
returns-clause-written g c = ap (λ (o : Out). o.space.now) (stands g c)

pub returns-clause-after : goal.returns-clause-after
returns-clause-after g c = ap (λ (o : Out). o.at) (stands g c)
