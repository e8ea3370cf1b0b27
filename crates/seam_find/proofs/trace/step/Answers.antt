-- `seam_find::trace::step` meets its contract: each return by its tests.
use Rattle.std.proofs.Common.{sym, arith}
use Rattle.seam_theory.proofs.Ways.{came_last, came_first, came_inner}
use Rattle.seam_find.proofs.trace.step.Goals as goal

pub returns-then-right-eq0 : goal.returns-then-right-eq0
returns-then-right-eq0 c = sym (came_last _ _ _ (omega arith))

pub returns-then-width-right : goal.returns-then-width-right
returns-then-width-right c = sym (came_first _ _ _ (omega arith))

pub returns-else-width-right : goal.returns-else-width-right
returns-else-width-right c = sym (came_inner _ _ _ (omega arith) (omega arith))
