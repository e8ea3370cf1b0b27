-- There is no such place, no room from it on, or room enough.
use native.Mathlib.Omega.{arith}
use Rattle.std.proofs.Common.{◌+◌, ◌≤◌, length, rules}
use Rattle.text_lengths.proofs.Rooms.{less-room, less-short}
use Rattle.text_print.proofs.Written.{put_short, put_done}
use Rattle.text_print.proofs.printing.print.Goals as goal

pub returns-in_err-left_after : goal.returns-in_err-left_after
returns-in_err-left_after g c =
    rw c.from_residual-in_err-left_after.ensures
    (put_short (omega (arith, c.in_ok-checked_sub.ensures, less-short c.in_ok-checked_sub.field-0 (length (g.T.Text.text c.args.text.now)) c.in_err-left_after.ensures)))

pub write-requires : goal.write-requires
write-requires g c =
    omega (arith, c.in_ok-checked_sub.ensures, less-room c.in_ok-checked_sub.field-0 (length (g.T.Text.text c.args.text.now)) c.in_ok-left_after.field-0 c.in_ok-left_after.ensures)

pub returns : goal.returns
returns g c =
    let room : c.args.at + length (g.T.Text.text c.args.text.now) ≤ length c.args.out.now =
    omega (arith, c.in_ok-checked_sub.ensures, less-room c.in_ok-checked_sub.field-0 (length (g.T.Text.text c.args.text.now)) c.in_ok-left_after.field-0 c.in_ok-left_after.ensures) in
    put_done room c.write.ensures.after (search rules)
