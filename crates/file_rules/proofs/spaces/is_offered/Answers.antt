-- `file_rules::spaces::is_offered` meets its contract: the depth is below the width, and the growth is small.
use Rattle.std.proofs.Common.{arith}
use borrow.Author.Tests.{le-leb, lt-leb}
use Rattle.pictures.proofs.Limits.{sides_are}
use Rattle.map_theory.specs.Widths.{offered}
use Rattle.map_theory.proofs.Shown.{allowed_is}
use Rattle.file_rules.proofs.Ranges.{growth_most}
use Rattle.file_rules.proofs.spaces.is_offered.Goals as goal

pub overflow_sub-head : goal.overflow_sub-head
overflow_sub-head c = omega (arith, ((allowed_is _ _ _).0 c.requires.range).0)

pub overflow_add-result : goal.overflow_add-result
overflow_add-result c = omega (arith, growth_most c.args.head c.requires, (sides_are c.args.head.size c.requires.sides).width_most)

pub returns-then-head-wanted : goal.returns-then-head-wanted
unfolding offered
returns-then-head-wanted c = rw (le-leb _ _ c.if-head-wanted.true)

pub returns-else-head-wanted : goal.returns-else-head-wanted
unfolding offered
returns-else-head-wanted c = rw (lt-leb _ _ c.if-head-wanted.false)
