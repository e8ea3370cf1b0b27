-- `seam_planes::put_numbers` meets its contract. The loop's invariant: the lower two bytes of the first c numbers are put.
use Rattle.std.proofs.Common.{refl, ◌∙◌, ap, arith, length, ◌-◌, ◌*◌, ◌+◌, ◌/◌, ◌%◌, ◌≡◌, get_or, [], ◌∷◌}
use borrow.Rule.Slice.PartMut.{same_len_mid}
use Rattle.seam_planes.proofs.Numbers.{put_turn, put_end}
use Rattle.seam_planes.proofs.put_numbers.Goals as goal

pub loop-c-preserved : goal.loop-c-preserved
loop-c-preserved c =
    let a = c.args in
    let l = c.loop-c in
    let at = 2 * l.c in
    let new = c.copy_from_slice.new.self in
    let v = get_or a.numbers.now l.c 0 % 65536 in
    let high : get_or a.numbers.now l.c 0 % 65536 / 256 % 256 ≡ get_or a.numbers.now l.c 0 % 65536 / 256 = omega arith in
    record {
      within = omega arith;
      long = same_len_mid at (at + 2 - at) l.row new c.copy_from_slice.auto.self ∙ l.invariant.long;
      put =
          put_turn a.numbers.now a.row.now (omega arith) l.c at (at + 2) l.row new c.loop-c-test.true l.invariant.long refl refl
          (c.copy_from_slice.ensures.after ∙ c.to_le_bytes.ensures ∙ ap (λ h. v % 256 ∷ h ∷ []) high) l.invariant.put;
    }

pub returns-clause-put : goal.returns-clause-put
returns-clause-put c given =
    let e : c.loop-c.c ≡ length c.args.numbers.now = omega arith in
    put_end c.args.numbers.now c.args.row.now given.0 c.loop-c.row given.1 (rw e at c.loop-c.invariant.put)
