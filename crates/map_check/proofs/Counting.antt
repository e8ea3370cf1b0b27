-- A row judged by counting how often each number stands in it.
use mathlib.Core.Path.{◌≡◌, refl, sym, ap, ◌∙◌}
use mathlib.Core.Bool.{Bool, true, false, ◌&&◌, and-true, and-false}
use mathlib.Core.List.{List, [], ◌∷◌}
use Prim.Native.Nat.{ℕ, zero, suc, ◌+◌, ◌≤◌, ◌<◌}
use native.Mathlib.Omega.{arith}
use lib.Dec.{leb, eqb}
use borrow.Author.Tests.{eq-eqb, lt-leb}
use lib.ListN.{length, get_or, take, drop, replicate, get_or-replicate}
use lib.Seq.{drop-cons}
use Rattle.std.specs.List.{list_all}
use Rattle.seam_theory.specs.Paths.{run}
use Rattle.map_theory.specs.Judged.{every, tick, count, numbers}
use Rattle.map_theory.proofs.Tests.{every-run}

-- No number stands more often than the row is long.
pub count_most : (v : ℕ) (ys : List ℕ) → count v ys ≤ length ys
count_most v [] = omega arith
count_most v (a ∷ ys) = go (eqb a v) (count_most v ys)
  where
    go : (b : Bool) → count v ys ≤ length ys → tick b (count v ys) ≤ suc (length ys)
    go true h = omega arith
    go false h = omega arith

-- The counts of the numbers passed, kept in a list of n, and those to come make the counts of the row.
abbrev pub Counted : ℕ → List ℕ → List ℕ → List ℕ → Type 0
Counted n seen rest ys = (v : ℕ) → v < n → get_or seen v 0 + count v rest ≡ count v ys

pub counted_start : (n : ℕ) (ys : List ℕ) → Counted n (replicate n 0) ys ys
counted_start n ys v h = omega (arith, get_or-replicate {A = ℕ} n v 0 0 h)

-- There is room for one more in two bytes.
pub counted-few : (n : ℕ) (seen rest more ys : List ℕ) (a : ℕ) → rest ≡ a ∷ more → a < n → Counted n seen rest ys → get_or seen a 0 + 1 ≤ length ys
counted-few n seen rest more ys a is i inv =
    let one : count a rest ≡ suc (count a more) = rw (is, eq-eqb a a refl) in
    omega (arith, one, inv a i, count_most a ys)

pub counted-all : (n : ℕ) (seen rest ys : List ℕ) → rest ≡ [] → Counted n seen rest ys → (v : ℕ) → v < n → get_or seen v 0 ≡ count v ys
counted-all n seen rest ys none inv v l = let z : count v rest ≡ 0 = rw none in omega (arith, z, inv v l)

-- The numbers to come decide whether one is over k.
module _ (k : ℕ) (rest more : List ℕ) (a : ℕ) (is : rest ≡ a ∷ more) where
  pub few-not : k < a → every (λ v. leb v k) rest ≡ false
  few-not h = rw (is, lt-leb a k h)

-- A run of counts, each judged where it stands.
pub all-run : (f : ℕ → Bool) (seen : List ℕ) (i k : ℕ) → i + k ≤ length seen → list_all f (take k (drop i seen)) ≡ every (λ v. f (get_or seen v 0)) (run i k)
unfolding run
all-run f seen i zero h = refl
all-run f seen i (suc k) h = rw (drop-cons seen i 0 (omega arith)) (ap (f (get_or seen i 0) &&◌) (all-run f seen (suc i) k (omega arith)))

-- A row judged by its counts.
every-same : (f g : ℕ → Bool) (k : ℕ) → ((t : ℕ) → 1 ≤ t → t ≤ k → f t ≡ g t) → every f (run 1 k) ≡ every g (run 1 k)
every-same f g k h = go (every g (run 1 k)) refl
  where
    go : (b : Bool) → every g (run 1 k) ≡ b → every f (run 1 k) ≡ b
    go true e = (every-run f k).1 (λ t l m. h t l m ∙ (every-run g k).0 e t l m)
    go false e = not-all (every f (run 1 k)) refl
      where
        not-all : (b : Bool) → every f (run 1 k) ≡ b → b ≡ false
        not-all true q = sym ((every-run g k).1 (λ t l m. sym (h t l m) ∙ (every-run f k).0 q t l m)) ∙ e
        not-all false q = refl

pub counts_judge : (k n : ℕ) (seen ys : List ℕ) → k < n → ((v : ℕ) → v < n → get_or seen v 0 ≡ count v ys) → every (λ v. leb v k) ys ≡ true
    → every (λ v. eqb (get_or seen v 0) 1) (run 1 k) ≡ numbers k ys
unfolding numbers
counts_judge k n seen ys l h e =
    every-same (λ v. eqb (get_or seen v 0) 1) (λ v. eqb (count v ys) 1) k (λ t a b. ap (λ m. eqb m 1) (h t (omega arith)))
    ∙ sym (ap (every (λ v. eqb (count v ys) 1) (run 1 k) &&◌) e ∙ and-true (every (λ v. eqb (count v ys) 1) (run 1 k)))

pub numbers-over : (k : ℕ) (ys : List ℕ) → every (λ v. leb v k) ys ≡ false → numbers k ys ≡ false
unfolding numbers
numbers-over k ys e = ap (every (λ v. eqb (count v ys) 1) (run 1 k) &&◌) e ∙ and-false (every (λ v. eqb (count v ys) 1) (run 1 k))
