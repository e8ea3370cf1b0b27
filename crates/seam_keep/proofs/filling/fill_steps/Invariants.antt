-- `seam_keep::filling::fill_steps` meets its contract. The loop's invariant: r rows of each plane hold the costs of coming from its side.
use mathlib.Core.Path.{◌≡◌}
use lib.ListN.{length}
use Rattle.pictures.specs.Limits.{most_side}
use Rattle.energy.specs.declared.pixels.Step.TheVariants.{Up, Left, Right}
use Rattle.seam_keep.proofs.Costed.{Rows}
use Rattle.seam_keep.proofs.filling.fill_steps.Given as goal

abbrev pub invariant-loop-r : goal.invariant-loop-r
invariant-loop-r l = record {
  left_room : length l.lefts ≡ most_side;
  up_room : length l.ups ≡ most_side;
  right_room : length l.rights ≡ most_side;
  left_rows : Rows l.size l.method l.picture Left l.fn.left l.r l.left;
  up_rows : Rows l.size l.method l.picture Up l.fn.up l.r l.up;
  right_rows : Rows l.size l.method l.picture Right l.fn.right l.r l.right;
}
