-- How many pixels of a row are numbered 1 to u, and how many 0.
use mathlib.Core.Path.{◌≡◌, refl, ◌∙◌}
use mathlib.Core.Bool.{Bool, true, false, not}
use mathlib.Core.List.{List, [], ◌∷◌}
use Prim.Native.Nat.{ℕ, zero, suc, ◌+◌, ◌≤◌}
use native.Mathlib.Omega.{arith}
use lib.Dec.{leb, eqb, eqb-suc-zero}
use borrow.Author.Tests.{leb-true, eqb-true}
use lib.ListN.{length}
use Rattle.grids.proofs.Bools.{both}
use Rattle.map_theory.specs.Judged.{every, tick, count, doubled_in, remains, Numbering}
use Rattle.map_theory.proofs.Numbers.{remains_zero, remains-all, remains-le, remains-lt, remains-next, doubled-not}
use Rattle.map_theory.proofs.Numberings.{numbering_most}

doubled-none : (ys : List ℕ) → doubled_in 0 ys ≡ 0
doubled-none [] = refl
doubled-none (v ∷ ys) = rw (doubled-not 0 v, remains-all v) (doubled-none ys)

-- One number more.
doubled-next : (u : ℕ) (ys : List ℕ) → doubled_in (suc u) ys ≡ doubled_in u ys + count (suc u) ys
doubled-next u [] = refl
doubled-next u (v ∷ ys) = rw (doubled-not (suc u) v, doubled-not u v) (go (eqb v (suc u)) refl (doubled-next u ys))
  where
    others : (b : Bool) → doubled_in (suc u) ys ≡ doubled_in u ys + count (suc u) ys → tick b (doubled_in (suc u) ys) ≡ tick b (doubled_in u ys) + count (suc u) ys
    others true ih = omega arith
    others false ih = ih

    go : (b : Bool) → eqb v (suc u) ≡ b → doubled_in (suc u) ys ≡ doubled_in u ys + count (suc u) ys
        → tick (not (remains (suc (suc u)) v)) (doubled_in (suc u) ys) ≡ tick (not (remains (suc u) v)) (doubled_in u ys) + tick b (count (suc u) ys)
    go true q ih = rw (eqb-true v (suc u) q, remains-lt (suc (suc u)) u (omega arith), remains-le (suc u) u (omega arith)) (omega arith)
    go false q ih = rw (remains-next (suc u) v q) (others (not (remains (suc u) v)) ih)

-- In a numbering they are u.
pub doubled_numbering : (k u : ℕ) (ys : List ℕ) → Numbering k ys → u ≤ k → doubled_in u ys ≡ u
doubled_numbering k zero ys n h = doubled-none ys
doubled_numbering k (suc u) ys n h =
    doubled-next u ys ∙ omega (arith, doubled_numbering k u ys n (omega arith), n.once (suc u) (omega arith) h)

-- The other pixels of a numbering are 0: as many as its depth leaves.
pub zeros_numbering : (k : ℕ) (ys : List ℕ) → Numbering k ys → count 0 ys + k ≡ length ys
zeros_numbering k ys n = omega (arith, rest ys (numbering_most k ys n), doubled_numbering k k ys n (omega arith))
  where
    rest : (ys : List ℕ) → every (λ v. leb v k) ys ≡ true → count 0 ys + doubled_in k ys ≡ length ys
    rest [] e = refl
    rest (zero ∷ ys) e = rw (doubled-not k 0, remains_zero (suc k)) (omega (arith, rest ys (both (leb 0 k) (every (λ v. leb v k) ys) e).1))
    rest (suc v ∷ ys) e =
        let b = both (leb (suc v) k) (every (λ v. leb v k) ys) e in
        rw (eqb-suc-zero v, doubled-not k (suc v), remains-lt (suc k) v (omega (arith, leb-true (suc v) k b.0))) (omega (arith, rest ys b.1))
