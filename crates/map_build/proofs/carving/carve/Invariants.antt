-- `map_build::carving::carve` meets its contract. The invariant: after t seams the planes hold what is left of the picture and all that is
-- kept of it, and the map is that of depth t, in bytes.
use Prim.Native.Nat.{◌*◌, ◌≤◌}
use lib.ListN.{length}
use Rattle.pictures.specs.Pictures.{picture_in, pixels}
use Rattle.pictures.proofs.Samples.{AreBytes}
use Rattle.map_build.proofs.Carved.{Carved}
use Rattle.map_build.proofs.carving.carve.Given as goal

abbrev pub invariant-loop-t : goal.invariant-loop-t
invariant-loop-t l =
    (8 * pixels l.size ≤ length l.sums)
    × AreBytes l.map
    × Carved l.size l.method (picture_in l.size l.fn.work) l.t l.picture l.up l.left l.right l.columns l.map
