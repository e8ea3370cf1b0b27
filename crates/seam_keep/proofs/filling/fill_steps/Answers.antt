-- `seam_keep::filling::fill_steps` meets its contract. The loop's invariant: r rows of each plane hold the costs of coming from its side.
use Rattle.std.proofs.Common.{refl, ◌∙◌, arith, rules, ℕ, ◌+◌, ◌*◌, get_or, Fits, w8}
use Rattle.energy.specs.declared.pixels.Step.TheVariants.{Up, Left, Right}
use Rattle.seam_keep.proofs.Costed.{costed_start, costed_turn, costed_end, steps_front}
use Rattle.seam_keep.proofs.Lined.{row_sure}
use Rattle.seam_keep.proofs.filling.fill_steps.Goals as goal

pub loop-r-init : goal.loop-r-init
loop-r-init c =
    let a = c.args in
    let q = c.requires in
    let b = a.picture.now in
    record {
      left_room = search rules;
      up_room = search rules;
      right_room = search rules;
      left_rows = costed_start a.size a.method b Left a.left.now q.left;
      up_rows = costed_start a.size a.method b Up a.up.now q.up;
      right_rows = costed_start a.size a.method b Right a.right.now q.right;
    }

pub loop-r-preserved : goal.loop-r-preserved
loop-r-preserved c =
    let a = c.args in
    let q = c.requires in
    let l = c.loop-r in
    let v = l.invariant in
    let z = a.size in
    let b = a.picture.now in
    let row = c.loop-r-test.true in
    let at = l.r * (2 * z.width) in
    let end = at + 2 * z.width in
    let fits : (i : ℕ) → Fits w8 (get_or b i 0) = search rules in
    let narrow = (row_sure z l.r _ q.up.sides q.up.room row).narrow in
    let front =
    steps_front z a.method b _ q.up l.r _ _ _ _ _ _ c.step_costs.result c.step_costs.ensures row (omega (arith, narrow, v.left_room)) (omega (arith, narrow, v.up_room))
    (omega (arith, narrow, v.right_room)) in
    record {
      left_room = c.step_costs.auto.left ∙ v.left_room;
      up_room = c.step_costs.auto.up ∙ v.up_room;
      right_room = c.step_costs.auto.right ∙ v.right_room;
      left_rows =
          costed_turn z a.method b Left a.left.now q.left (λ i. omega (arith, fits i)) l.r at end l.left c.put_numbers.new.row _ row refl refl front.left
          c.put_numbers.ensures.put v.left_rows;
      up_rows =
          costed_turn z a.method b Up a.up.now q.up (λ i. omega (arith, fits i)) l.r at end l.up c.put_numbers-in-loop-r.new.row _ row refl refl front.up
          c.put_numbers-in-loop-r.ensures.put v.up_rows;
      right_rows =
          costed_turn z a.method b Right a.right.now q.right (λ i. omega (arith, fits i)) l.r at end l.right c.put_numbers-in-loop-r-2.new.row _ row refl refl front.right
          c.put_numbers-in-loop-r-2.ensures.put v.right_rows;
    }

pub returns-clause-left : goal.returns-clause-left
returns-clause-left c =
    let a = c.args in
    let l = c.loop-r in
    costed_end a.size a.method a.picture.now Left a.left.now c.requires.left l.r l.left (omega arith) l.invariant.left_rows

pub returns-clause-up : goal.returns-clause-up
returns-clause-up c =
    let a = c.args in
    let l = c.loop-r in
    costed_end a.size a.method a.picture.now Up a.up.now c.requires.up l.r l.up (omega arith) l.invariant.up_rows

pub returns-clause-right : goal.returns-clause-right
returns-clause-right c =
    let a = c.args in
    let l = c.loop-r in
    costed_end a.size a.method a.picture.now Right a.right.now c.requires.right l.r l.right (omega arith) l.invariant.right_rows
