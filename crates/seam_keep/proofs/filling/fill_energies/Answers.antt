-- `seam_keep::filling::fill_energies` meets its contract. The loop's invariant: r rows hold the energies of theirs.
use Rattle.std.proofs.Common.{refl, ◌∙◌, arith, rules, ℕ, ◌+◌, ◌*◌, get_or, Fits, w8}
use Rattle.energy.specs.declared.pixels.Step.TheVariants.{Up}
use Rattle.seam_keep.proofs.Costed.{costed_start, costed_turn, costed_end, energies_front}
use Rattle.seam_keep.proofs.Lined.{row_sure}
use Rattle.seam_keep.proofs.filling.fill_energies.Goals as goal

pub loop-r-init : goal.loop-r-init
loop-r-init c =
    let a = c.args in
    record { room = search rules; rows = costed_start a.size a.method a.picture.now Up a.up.now c.requires }

pub loop-r-preserved : goal.loop-r-preserved
loop-r-preserved c =
    let a = c.args in
    let q = c.requires in
    let l = c.loop-r in
    let z = a.size in
    let b = a.picture.now in
    let row = c.loop-r-test.true in
    let at = l.r * (2 * z.width) in
    let fits : (i : ℕ) → Fits w8 (get_or b i 0) = search rules in
    let sure = row_sure z l.r _ q.sides q.room row in
    let front = energies_front z a.method b _ q l.r _ _ c.energies.result c.energies.ensures row (omega (arith, sure.narrow, l.invariant.room)) in
    record {
      room = c.energies.auto.out ∙ l.invariant.room;
      rows =
          costed_turn z a.method b Up a.up.now q (λ i. omega (arith, fits i)) l.r at (at + 2 * z.width) l.up c.put_numbers.new.row _ row refl refl front c.put_numbers.ensures.put l.invariant.rows;
    }

pub returns : goal.returns
returns c =
    let a = c.args in
    let l = c.loop-r in
    costed_end a.size a.method a.picture.now Up a.up.now c.requires l.r l.up (omega arith) l.invariant.rows
