-- `program_filters::fit_program::draw_in` meets its contract: what is shown is printed, and there is room for it.
use Rattle.std.proofs.Common.{◌≡◌, ℕ, ◌*◌, ◌≤◌, List, ◌++◌, Err, rules, length, take, refl, sym, arith}
use lib.Seq.{length-take-le}
use Rattle.std.specs.Prelude.{Option, None, Some, IsSome}
use Rattle.text_print.specs.Prints.{Put}
use Rattle.text_print.proofs.Written.{never_short}
use Rattle.program_theory.specs.Netpbm.{header_text}
use Rattle.program_filters.proofs.PictureAnswers.{Drawing, draw_served, draw_refused, drawing}
use Rattle.program_filters.proofs.fit_program.draw_in.Goals.{After-pixel_bytes}
use Rattle.program_filters.proofs.fit_program.draw_in.Goals as goal

-- The picture is shown, its bytes are inside the space, and there is room for its text.
module _ (c : After-pixel_bytes) where
  shown : Drawing c.args.file.now c.args.width c.in_ok-size.size c.show.new.out
  shown = drawing _ _ _ _ _ c.requires refl _ c.in_ok-size.ensures

  inside : c.in_ok-size.size.height * (c.in_ok-size.size.width * c.pixel_bytes.result) ≤ length c.show.new.out
  inside = rw c.pixel_bytes.ensures shown.inside

  room : length (header_text c.in_ok-size.size ++ take (c.in_ok-size.size.height * (c.in_ok-size.size.width * c.pixel_bytes.result)) c.show.new.out) ≤ length c.args.out.now
  room = rw c.pixel_bytes.ensures (omega (arith, c.requires.room, shown.text_most))

-- What has room is printed.
printed : (r : Option ℕ) {out bytes out' : List ℕ} → length bytes ≤ length out → Put out 0 bytes r out' → IsSome r
printed None h p = absurd (never_short (omega (arith, h)) p)
printed (Some n) h p = refl

pub returns-in_err-size : goal.returns-in_err-size
returns-in_err-size c =
    let why = c.in_err-size.field-0.0 in
    let is : c.from_residual.result ≡ Err why = search rules in
    rw is (draw_refused _ _ _ _ _ c.requires refl why c.in_err-size.ensures)

pub overflow_mul-bytes : goal.overflow_mul-bytes
overflow_mul-bytes c = rw c.pixel_bytes.ensures (omega (arith, (shown (goal.at.overflow_mul-bytes c).After-pixel_bytes).row_most))

pub overflow_mul-bytes-2 : goal.overflow_mul-bytes-2
overflow_mul-bytes-2 c = rw c.pixel_bytes.ensures (omega (arith, (shown (goal.at.overflow_mul-bytes-2 c).After-pixel_bytes).few))

pub slice_bounds-print_picture-end : goal.slice_bounds-print_picture-end
slice_bounds-print_picture-end c = inside (goal.at.slice_bounds-print_picture-end c).After-pixel_bytes

pub slice_bounds-print_picture-end-2 : goal.slice_bounds-print_picture-end-2
slice_bounds-print_picture-end-2 c = sym (length-take-le _ _ (inside (goal.at.slice_bounds-print_picture-end-2 c).After-pixel_bytes))

pub unwrap-end-requires : goal.unwrap-end-requires
unwrap-end-requires c = printed c.print_picture.result (room (goal.at.unwrap-end-requires c).After-pixel_bytes) c.print_picture.ensures

pub returns : goal.returns
returns c =
    draw_served (shown (goal.at.returns c).After-pixel_bytes) c.requires.room (rw c.pixel_bytes.ensures at (rw c.unwrap-end.ensures at c.print_picture.ensures))
