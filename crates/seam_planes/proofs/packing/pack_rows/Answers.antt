-- `seam_planes::packing::pack_rows` meets its contract. The loop's invariant: the fronts of r rows stand at the front, and after them
-- what stood there.
use Rattle.std.proofs.Common.{refl, ◌∙◌, arith, ◌-◌, ◌*◌, ◌+◌, ◌≡◌}
use borrow.Rule.Slice.PartMut.{same_len_mid}
use lib.Seq.{length_front}
use Rattle.seam_planes.proofs.Packed.{pack_turn, pack_end}
use Rattle.seam_planes.proofs.packing.pack_rows.Goals as goal

pub loop-r-preserved : goal.loop-r-preserved
loop-r-preserved c =
    let k = c.args.kept in
    let l = c.loop-r in
    let to = l.r * k in
    let row = c.copy_from_slice.new.self in
    let new = c.copy_from_slice-in-loop-r.new.self in
    record {
      within = omega arith;
      long = same_len_mid to (to + k - to) l.plane new c.copy_from_slice-in-loop-r.auto.self ∙ l.invariant.long;
      line_long = length_front l.line row k c.copy_from_slice.auto.self ∙ l.invariant.line_long;
      packed =
          pack_turn c.requires l.r _ to l.plane row l.line new c.loop-r-test.true l.invariant.long refl refl
          c.copy_from_slice.ensures.after c.copy_from_slice-in-loop-r.ensures.after l.invariant.packed;
    }

pub returns-clause-packed : goal.returns-clause-packed
returns-clause-packed c =
    let e : c.loop-r.r ≡ c.args.height = omega arith in
    pack_end c.requires c.loop-r.plane (rw e at c.loop-r.invariant.packed)
