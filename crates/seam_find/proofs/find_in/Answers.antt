-- `seam_find::find_in` meets its contract: what is found by energies is the picture's seam.
use Rattle.std.proofs.Common.{ℕ, get_or, arith, Fits, w8, rules}
use Rattle.seam_find.proofs.ByEnergies.{find_in-given}
use Rattle.seam_find.proofs.find_in.Goals as goal

pub returns : goal.returns
returns c =
    let a = c.args in
    let fits : (i : ℕ) → Fits w8 (get_or a.space.now i 0) = search rules in
    find_in-given a.size a.method a.space.now a.seam.now (λ i. omega (arith, fits i)) _ _ _ c.find_by.ensures
