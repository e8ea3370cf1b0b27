-- Numbers read two bytes at a time.
use mathlib.Core.Path.{◌≡◌, refl}
use mathlib.Core.List.{List, [], ◌∷◌, ◌++◌}
use Prim.Native.Nat.{ℕ, ◌+◌, ◌*◌, ◌<◌}
use native.Mathlib.Omega.{arith}
use lib.ListN.{length, get_or}
use Rattle.pictures.specs.Numbers.{numbers_in}

-- One number more.
pub numbers-next : (pair more : List ℕ) {rest : List ℕ} {v : ℕ} → rest ≡ pair ++ more → length pair ≡ 2 → v ≡ get_or pair 0 0 + 256 * get_or pair 1 0 → numbers_in rest ≡ v ∷ numbers_in more
numbers-next pair more split long is = rw (split, is) (go pair long)
  where
    go : (p : List ℕ) → length p ≡ 2 → numbers_in (p ++ more) ≡ (get_or p 0 0 + 256 * get_or p 1 0) ∷ numbers_in more
    go [] l = absurd (omega arith)
    go (a ∷ []) l = absurd (omega arith)
    go (a ∷ b ∷ []) l = refl
    go (a ∷ b ∷ c ∷ p) l = absurd (omega arith)

pub numbers-none : (rest : List ℕ) → length rest < 2 → numbers_in rest ≡ []
numbers-none [] h = refl
numbers-none (a ∷ []) h = refl
numbers-none (a ∷ b ∷ r) h = absurd (omega arith)
