-- `seam_find_kept::down::put_fences` meets its contract: what is put first stands first.
use Rattle.std.proofs.Common.{◌∙◌}
use Rattle.seam_find_kept.proofs.Stored.{put-first}
use Rattle.seam_find_kept.proofs.down.put_fences.Goals as goal

pub returns-clause-left : goal.returns-clause-left
returns-clause-left g c = put-first _ _ _ c.requires.left c.put.ensures ∙ c.make_fence.ensures

pub returns-clause-right : goal.returns-clause-right
returns-clause-right g c = put-first _ _ _ c.requires.right c.put-2.ensures ∙ c.make_fence-2.ensures
