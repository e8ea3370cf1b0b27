-- `map_check::numbers::has_same_numbers` meets its contract.
use Rattle.std.proofs.Common.{rules, ◌≡◌, ◌∙◌, ℕ, ◌*◌, ◌/◌, get_or, length, Fits, w8, arith}
use Rattle.map_check.proofs.Same.{same_bytes}
use Rattle.map_check.proofs.numbers.has_same_numbers.Goals as goal

pub returns : goal.returns
returns c =
    let a = c.args.a.now in
    let b = c.args.b.now in
    let fits_a : (i : ℕ) → Fits w8 (get_or a i 0) = search rules in
    let fits_b : (i : ℕ) → Fits w8 (get_or b i 0) = search rules in
    let long : length a ≡ 2 * (length a / 2) = omega (arith, c.requires.whole) in
    c.eq.ensures ∙ same_bytes (length a / 2) a b long (omega (arith, c.requires.long)) (λ i. omega (arith, fits_a i)) (λ i. omega (arith, fits_b i))
