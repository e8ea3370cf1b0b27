-- Laws of a sum over the pixels of a path.
use mathlib.Core.Path.{◌≡◌, refl, sym, ◌∙◌}
use mathlib.Core.List.{List, [], ◌∷◌, Memᴰ}
use Prim.Native.Nat.{ℕ, ◌+◌, ◌*◌, ◌≤◌, ◌<◌}
use native.Mathlib.Nat.{zero-add, add-mul, zero-mul, mul-one}
use native.Mathlib.Omega.{arith}
use lib.ListN.{length}
use Rattle.seam_theory.specs.Paths.{cost, along}

-- A path of no row.
pub along-nil : (v : ℕ → ℕ → ℕ) → along v [] ≡ 0
unfolding cost
along-nil v = refl

-- One row more at the bottom.
pub along-cons : (v : ℕ → ℕ → ℕ) (c : ℕ) (p : List ℕ) → along v (c ∷ p) ≡ along v p + v (length p) c
unfolding cost
along-cons v c [] = sym (zero-add (v 0 c))
along-cons v c (a ∷ p) = refl

-- Two values that agree on the path have the same sum.
pub along-same : (u v : ℕ → ℕ → ℕ) (p : List ℕ) → ((r c : ℕ) → r < length p → Memᴰ c p → u r c ≡ v r c) → along u p ≡ along v p
along-same u v [] h = along-nil u ∙ sym (along-nil v)
along-same u v (c ∷ p) h =
    omega (
      arith,
      along-cons u c p,
      along-cons v c p,
      h (length p) c (omega arith) (Memᴰ.head refl),
      along-same u v p (λ r a l i. h r a (omega arith) (Memᴰ.tail i)),
    )

-- Of the sums of two values.
pub along-add : (u v : ℕ → ℕ → ℕ) (p : List ℕ) → along (λ r c. u r c + v r c) p ≡ along u p + along v p
along-add u v [] = omega (arith, along-nil (λ r c. u r c + v r c), along-nil u, along-nil v)
along-add u v (c ∷ p) = omega (arith, along-cons (λ r c. u r c + v r c) c p, along-cons u c p, along-cons v c p, along-add u v p)

-- Of multiples.
pub along-mul : (v : ℕ → ℕ → ℕ) (k : ℕ) (p : List ℕ) → along (λ r c. v r c * k) p ≡ along v p * k
along-mul v k [] = along-nil (λ r c. v r c * k) ∙ rw (along-nil v, zero-mul k)
along-mul v k (c ∷ p) = along-cons (λ r c. v r c * k) c p ∙ rw (along-mul v k p, along-cons v c p) (sym (add-mul (along v p) (v (length p) c) k))

-- Of a constant.
pub along_constant : (k : ℕ) (p : List ℕ) → along (λ r c. k) p ≡ length p * k
along_constant k [] = along-nil (λ r c. k) ∙ sym (zero-mul k)
along_constant k (c ∷ p) = omega (arith, along-cons (λ r c. k) c p, along_constant k p)

-- Of two values of which each pixel has one.
pub along_split : (u v : ℕ → ℕ → ℕ) (p : List ℕ) → ((r c : ℕ) → u r c + v r c ≡ 1) → along u p + along v p ≡ length p
along_split u v p h = sym (along-add u v p) ∙ along-same (λ r c. u r c + v r c) (λ r c. 1) p (λ r c l i. h r c) ∙ along_constant 1 p ∙ mul-one (length p)

-- The bound of a sum.
pub along-most : (v : ℕ → ℕ → ℕ) (m : ℕ) (p : List ℕ) → ((r c : ℕ) → v r c ≤ m) → along v p ≤ length p * m
along-most v m [] h = omega (arith, along-nil v)
along-most v m (c ∷ p) h = omega (arith, along-cons v c p, h (length p) c, along-most v m p h)
