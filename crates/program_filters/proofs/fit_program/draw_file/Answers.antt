-- `program_filters::fit_program::draw_file` meets its contract: the space has just the most pixels of the file's kind.
use Rattle.std.proofs.Common.{◌≡◌, ℕ, ◌*◌, ◌≤◌, Err, rules, sym, ap, ◌∙◌, arith}
use mathlib.Core.Option.{none, some}
use lib.Seq.{length-take-le}
use Rattle.pictures.specs.declared.refusals.Refusal.TheVariants.{Form}
use Rattle.pictures.specs.declared.sizes.Kind.{Kind}
use Rattle.pictures.specs.Pictures.{pixel_bytes}
use Rattle.text_theory.specs.declared.Head.{Head}
use Rattle.text_theory.specs.Files.{head_get}
use Rattle.text_read.specs.Answers.{Told}
use Rattle.program_theory.specs.Programs.{held_pixels}
use Rattle.program_filters.proofs.PictureAnswers.{no_head, same_head}
use Rattle.program_filters.proofs.PictureAnswers.{three_bytes}
use Rattle.program_filters.proofs.fit_program.draw_file.Goals as goal

-- the most pixels fit the space
room_most : (k : Kind) (n : ℕ) → n ≡ pixel_bytes k → held_pixels * n ≤ 3 * held_pixels
room_most k n e = rw e (omega (arith, three_bytes k))

pub returns-in_err-head : goal.returns-in_err-head
returns-in_err-head c =
    let is : c.from_residual.result ≡ Err Form = search rules in
    let none_told : Told head_get c.args.file.now 0 none = search rules in
    rw is (no_head c.args.width c.args.out.now none_told)

pub draw_in-requires : goal.draw_in-requires
draw_in-requires c =
    let by = c.pixel_bytes-room.ensures in
    let told : Told head_get c.args.file.now 0 (some (c.in_ok-head.head, c.in_ok-head.field-0-1.at)) = search rules in
    record {
      held = λ p e.
          length-take-le _ _ (room_most c.in_ok-head.head.size.kind _ by)
          ∙ ap (λ n. held_pixels * n) (by ∙ sym (ap (λ (h : Head). pixel_bytes h.size.kind) (same_head told p e)));
      room = c.requires;
    }
