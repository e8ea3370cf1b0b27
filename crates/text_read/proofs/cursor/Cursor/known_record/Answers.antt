-- `text_read::cursor::Cursor::known_record` meets its contract. The invariant is `Recording`: as many numbers as the index says stand at
-- the front of the space, two bytes each, and here is the place after them.
use Rattle.std.proofs.Common.{◌≡◌, ◌+◌, ◌*◌, ◌/◌, ◌%◌, ◌∷◌, [], length, ◌∙◌, ap, refl, arith}
use Rattle.text_read.proofs.Figures.{filling_none}
use Rattle.text_read.proofs.KnownLines.{recording_first, recording_turn, recording_done, recording_none, record_known}
use Rattle.text_read.proofs.cursor.Cursor.known_record.Goals as goal

pub loop-i-init : goal.loop-i-init
loop-i-init c = recording_first c.args.out.now

pub returns-in_default : goal.returns-in_default
returns-in_default c =
    let none = recording_none c.loop-i.invariant c.loop-i-test.true c.in_default.ensures in
    record_known (none c.loop-i.here.at) refl c.loop-i.auto.out
    (λ come. absurd (filling_none (c.loop-i.invariant.filling come) c.loop-i-test.true c.in_default.ensures))

pub loop-i-preserved : goal.loop-i-preserved
loop-i-preserved c =
    let w = c.kept.result in
    let small : c.kept.result / 256 % 256 ≡ c.kept.result / 256 = omega (arith, c.kept.type_inv) in
    let is = c.copy_from_slice.ensures.after ∙ c.to_le_bytes.ensures ∙ ap (λ high. w % 256 ∷ high ∷ []) small in
    recording_turn c.loop-i.invariant c.loop-i-test.true (omega (arith, c.loop-i.auto.out)) c.in-Some.ensures w c.kept.ensures
    (2 * c.loop-i.i) (2 * c.loop-i.i + 2) refl refl c.copy_from_slice.new.self is

pub returns : goal.returns
returns c =
    let all : c.loop-i.i ≡ length c.args.out.now / 2 = omega (arith, c.loop-i.auto.i-end, c.loop-i-test.false) in
    record_known (recording_done c.loop-i.invariant all c.after_line.ensures) refl c.loop-i.auto.out (λ come. rw all at c.loop-i.invariant.there)
