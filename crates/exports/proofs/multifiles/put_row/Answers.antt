-- `exports::multifiles::put_row` meets its contract: a row that nothing refuses fits the space, so the number of its bytes doesn't
-- overflow.
use mathlib.Core.Path.{refl, sym}
use Prim.Native.Nat.{◌*◌, ◌≤◌}
use native.Mathlib.Omega.{arith}
use lib.ListN.{length}
use Rattle.exports.proofs.Filed.{row_at-room, served-row_at}
use Rattle.exports.proofs.multifiles.put_row.Goals as goal

pub overflow_mul-shown : goal.overflow_mul-shown
overflow_mul-shown c =
    let fits : c.pixels_at.result * c.pixel_bytes.result ≤ length c.args.out.now =
    rw (c.pixels_at.ensures, c.pixel_bytes.ensures) (row_at-room c.in_ok-row_at.ensures refl) in
    omega (arith, fits)

pub returns : goal.returns
returns c =
    rw (c.pixels_at.ensures, c.pixel_bytes.ensures)
    (served-row_at (sym c.in_ok-named.ensures) c.in_ok-row_at.ensures refl)
