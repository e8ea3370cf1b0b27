-- "Numbers are 0 to 65535 without leading zeros, samples 0 to 255": decimal numbers, from the highest digit.
use Rattle.std.specs.Prelude.{Bool, ◌&&◌, cond, List, [], ◌∷◌, ◌++◌, ℕ, zero, suc, ◌+◌, ◌-◌, ◌*◌, ◌/◌, ◌%◌, leb, ltb, eqb}
use Rattle.std.proofs.Math.Option.{Option, none, some}
use Rattle.text_theory.specs.Readers.{Get}

-- The digits of n, where n has at most as many as the bound says.
unfoldable pub digits_up_to : ℕ → ℕ → List ℕ
digits_up_to zero n = []
digits_up_to (suc k) n = cond (ltb n 10) ((48 + n) ∷ []) (digits_up_to k (n / 10) ++ (48 + n % 10) ∷ [])

unfoldable pub digits : ℕ → List ℕ
digits n = digits_up_to (suc n) n

unfoldable pub is_digit : ℕ → Bool
is_digit b = leb 48 b && leb b 57

-- The number n goes on with the digits at the front of the bytes.
unfoldable pub further : ℕ → List ℕ → ℕ × List ℕ
further n [] = (n, [])
further n (b ∷ s) = cond (is_digit b) (further (n * 10 + (b - 48)) s) (n, b ∷ s)

unfoldable pub up_to : ℕ → ℕ × List ℕ → Option (ℕ × List ℕ)
up_to limit r = cond (leb r.0 limit) (some r) none

-- A number up to the limit. A 0 stands alone: digits after it are no part of the number.
unfoldable pub number_get : ℕ → Get ℕ
number_get limit [] = none
number_get limit (b ∷ s) = cond (is_digit b) (cond (eqb b 48) (some (0, s)) (up_to limit (further (b - 48) s))) none
