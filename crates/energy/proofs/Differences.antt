-- The difference of two pixels is the sum of how far their samples are apart.
use mathlib.Core.Path.{◌≡◌, refl, ap, ◌∙◌}
use mathlib.Core.List.{List, [], ◌∷◌}
use Prim.Native.Nat.{ℕ, suc, ◌+◌, ◌*◌, ◌≤◌}
use native.Mathlib.Omega.{arith}
use lib.ListN.{length, get_or}
use Rattle.std.specs.List.{sum_by, zip}
use Rattle.std.proofs.lemmas.List.Sums.{sum_by-cons}
use Rattle.energy.specs.Energy.{apart, difference}

abbrev pub apart_of : ℕ × ℕ → ℕ
apart_of p = apart p.0 p.1

pub difference_is : (p q : List ℕ) → sum_by apart_of (zip p q) ≡ difference p q
unfolding difference
difference_is [] q = refl
difference_is (a ∷ p) [] = refl
difference_is (a ∷ p) (b ∷ q) = sum_by-cons apart_of (a, b) (zip p q) ∙ ap (apart a b +◌) (difference_is p q)

-- Of samples that are bytes, it is at most 255 for each.
pub difference_most : (p q : List ℕ) → ((i : ℕ) → get_or p i 0 ≤ 255) → ((i : ℕ) → get_or q i 0 ≤ 255) → difference p q ≤ length p * 255
unfolding difference
difference_most [] q h k = omega arith
difference_most (a ∷ p) [] h k = omega arith
difference_most (a ∷ p) (b ∷ q) h k =
    let x : a ≤ 255 = h 0 in
    let y : b ≤ 255 = k 0 in
    omega (arith, difference_most p q (λ i. h (suc i)) (λ i. k (suc i)))
