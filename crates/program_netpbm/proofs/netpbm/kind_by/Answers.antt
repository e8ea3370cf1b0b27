-- `program_netpbm::netpbm::kind_by` meets its contract: each arm says the kind that the two numbers say.
use native.Mathlib.Omega.{arith}
use Rattle.program_netpbm.proofs.Headers.{kind_none, kind_grey, kind_rgb, kind_other}
use Rattle.program_netpbm.proofs.netpbm.kind_by.Goals as goal

pub returns-then-maxval-ne-MAXVAL : goal.returns-then-maxval-ne-MAXVAL
returns-then-maxval-ne-MAXVAL c = kind_none _ _ c.if-maxval-ne-MAXVAL.true

pub returns-in-5 : goal.returns-in-5
returns-in-5 c = kind_grey _ _ c.if-maxval-ne-MAXVAL.false c.in-5.is

pub returns-in-6 : goal.returns-in-6
returns-in-6 c = kind_rgb _ _ c.if-maxval-ne-MAXVAL.false c.in-6.is

pub returns-in_default : goal.returns-in_default
returns-in_default c = kind_other _ _ (omega arith) (omega arith) c.if-maxval-ne-MAXVAL.false
