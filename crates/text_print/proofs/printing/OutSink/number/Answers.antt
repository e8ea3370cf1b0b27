use Rattle.text_theory.proofs.Decimals.{digits_small}
use Rattle.text_print.proofs.Written.{two_digits, three_digits}
use Rattle.text_print.proofs.printing.OutSink.number.Goals as goal

pub returns-then-n-lt10 : goal.returns-then-n-lt10
returns-then-n-lt10 c = rw (digits_small c.args.n c.if-n-lt10.true) c.put.ensures

pub returns-then-n-lt100 : goal.returns-then-n-lt100
returns-then-n-lt100 c = rw (two_digits c.args.n c.if-n-lt10.false c.if-n-lt100.true) c.put-then-n-lt100.ensures

pub returns-then-n-lt1000 : goal.returns-then-n-lt1000
returns-then-n-lt1000 c = rw (three_digits c.args.n c.if-n-lt100.false c.if-n-lt1000.true) c.put-then-n-lt1000.ensures
