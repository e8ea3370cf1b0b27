-- `seam_planes::pack_picture` meets its contract: the bytes of the columns left are the fronts of the rows of bytes.
use Rattle.std.proofs.Common.{ℕ, sym, ◌∙◌, get_or, arith, rules, Fits, w8}
use Rattle.seam_planes.proofs.Packed.{bytes_fronts, bytes_all}
use Rattle.seam_planes.proofs.pack_picture.Goals as goal

pub returns-then-size-width-clause-packed : goal.returns-then-size-width-clause-packed
returns-then-size-width-clause-packed c given =
    let a = c.args in
    bytes_all a.size a.width a.picture.now (omega (arith, given.1)) given.2 (λ i. omega (arith, c.type_inv.picture i))

pub returns-clause-packed : goal.returns-clause-packed
returns-clause-packed c given =
    let a = c.args in
    let fits : (i : ℕ) → Fits w8 (get_or a.picture.now i 0) = search rules in
    (rw c.pixel_bytes-pixel.ensures at c.pack_rows.ensures.packed)
    ∙ sym (bytes_fronts a.size a.width a.picture.now given.1 given.2 (λ i. omega (arith, fits i)))
