-- `seam_find::bottom::find_bottom` meets its contract. The rows that it lends are the fronts of local arrays, which are long
-- enough for the widest picture; the answer is `bottom_with`'s.
use Rattle.std.proofs.Common.{◌+◌, ◌*◌, arith}
use Rattle.pictures.specs.Pictures.{largest_side}
use Rattle.pictures.proofs.Limits.{sides_are}
use Rattle.seam_find.proofs.Fences.{fences_are, length-take-replicate}
use Rattle.seam_find.proofs.bottom.find_bottom.Goals as goal

pub bottom_with-requires : goal.bottom_with-requires
bottom_with-requires g c =
    let z = c.args.allowed.size in
    let sides = sides_are z c.args.allowed.allowed in
    let fence = c.make_fence-fence in
    let zero = c.make_zero-zero in
    record {
      room = c.requires.room;
      fences =
          fences_are g.C.Sum.Number.value fence.result g.C.Sum.Number.fence (z.width + 2) (largest_side + 2) fence.ensures
          (omega (arith, sides.width_most));
      energies_room = length-take-replicate (3 * z.width) (3 * largest_side) 0 (omega (arith, sides.width_most));
      steps_room = length-take-replicate (3 * z.width) (3 * largest_side) zero.result (omega (arith, sides.width_most));
      next_room = length-take-replicate z.width largest_side zero.result sides.width_most;
    }
