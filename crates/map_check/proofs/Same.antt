-- Numbers are the same where their bytes are.
use mathlib.Core.Path.{◌≡◌, refl, sym, ap₂, ◌∙◌}
use mathlib.Core.Bool.{Bool, true, false, ◌&&◌}
use mathlib.Core.List.{List, [], ◌∷◌}
use Prim.Native.Nat.{ℕ, suc, ◌+◌, ◌-◌, ◌*◌, ◌<◌}
use native.Mathlib.Omega.{arith}
use borrow.Author.Tests.{eqb-true, eqb-false, eq-eqb, ne_eqb}
use lib.Dec.{eqb}
use lib.ListN.{length, get_or}
use lib.Pointwise.{pointwise}
use Rattle.pictures.specs.Numbers.{numbers_in}
use Rattle.map_theory.specs.Judged.{same}

-- Two numbers.
two : (x y u v : ℕ) → x < 256 → u < 256 → (eqb x u && eqb y v) ≡ eqb (x + 256 * y) (u + 256 * v)
two x y u v l m = go (eqb x u) (eqb y v) refl refl
  where
    go : (s t : Bool) → eqb x u ≡ s → eqb y v ≡ t → (s && t) ≡ eqb (x + 256 * y) (u + 256 * v)
    go true true e f =
        let p = eqb-true x u e in
        let q = eqb-true y v f in
        sym (eq-eqb (x + 256 * y) (u + 256 * v) (omega arith))
    go true false e f = sym (ne_eqb (x + 256 * y) (u + 256 * v) (λ (all : x + 256 * y ≡ u + 256 * v). eqb-false y v f (omega arith)))
    go false t e f = sym (ne_eqb (x + 256 * y) (u + 256 * v) (λ (all : x + 256 * y ≡ u + 256 * v). eqb-false x u e (omega arith)))

and_assoc : (a b c : Bool) → (a && (b && c)) ≡ ((a && b) && c)
and_assoc true b c = refl
and_assoc false b c = refl

pub same_bytes : (n : ℕ) (a b : List ℕ) → length a ≡ 2 * n → length b ≡ 2 * n → ((i : ℕ) → get_or a i 0 < 256) → ((i : ℕ) → get_or b i 0 < 256)
    → pointwise eqb a b ≡ same (numbers_in a) (numbers_in b)
same_bytes n [] [] e f l m = refl
same_bytes n [] (u ∷ b) e f l m = absurd (omega arith)
same_bytes n (x ∷ a) [] e f l m = absurd (omega arith)
same_bytes n (x ∷ []) (u ∷ b) e f l m = absurd (omega arith)
same_bytes n (x ∷ y ∷ a) (u ∷ []) e f l m = absurd (omega arith)
same_bytes n (x ∷ y ∷ a) (u ∷ v ∷ b) e f l m =
    and_assoc (eqb x u) (eqb y v) (pointwise eqb a b)
    ∙ ap₂ ◌&&◌ (two x y u v (l 0) (m 0)) (same_bytes (n - 1) a b (omega arith) (omega arith) (λ i. l (suc (suc i))) (λ i. m (suc (suc i))))
