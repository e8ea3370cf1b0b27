-- What size, range and work space refuse, then what the output space does.
use mathlib.Core.Path.{refl}
use Rattle.file_build.proofs.Answers.{allowed-deep}
use Rattle.file_build.proofs.Judged.{ready, too-short, long-enough}
use Rattle.file_build.proofs.judge_buffers.Goals as goal

pub invariant_of-source : goal.invariant_of-source
invariant_of-source c =
    let r = ready c.args.picture.now c.args.head c.args.out c.args.work c.in_ok-judge_build.ensures in
    record { sized = r.sized; deep = allowed-deep _ _ _ r.ranged }

pub returns-in_default : goal.returns-in_default
returns-in_default c = record { number = too-short _ _ _ _ c.in_ok-judge_build.ensures c.in_default.ensures; source = tt }

pub returns : goal.returns
returns c = record { number = long-enough _ _ _ _ c.in_ok-judge_build.ensures c.in-Some.ensures; source = (refl, refl) }
