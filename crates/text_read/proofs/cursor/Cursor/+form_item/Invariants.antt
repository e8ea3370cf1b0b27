-- The form reader and the item reader meet their contracts: the bytes left fall at each call, and the loop's state is `Counting`.
use Rattle.std.proofs.Common.{length, ◌-◌}
use Rattle.text_read.proofs.FormSteps.{Counting}
use Rattle.text_read.proofs.cursor.Cursor.+form_item.Given as goal

-- The bytes left.
abbrev pub decreases-form : goal.decreases-form
decreases-form l = length l.text.now - l.self.at

abbrev pub decreases-item : goal.decreases-item
decreases-item l = length l.text.now - l.self.at

abbrev pub invariant-form-loop-class : goal.invariant-form-loop-class
invariant-form-loop-class l = Counting l.what l.text l.initial.here.at l.n l.here.at

abbrev pub decreases-form-loop-class : goal.decreases-form-loop-class
decreases-form-loop-class l = length l.text - l.here.at
