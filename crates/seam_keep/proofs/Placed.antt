-- A row of numbers in which one was put before column k and one at it: it holds these two, and else what stood there.
use mathlib.Core.Path.{◌≡◌, refl, ap, ◌∙◌}
use mathlib.Core.Logic.{◌⊎◌, inl, inr}
use mathlib.Core.Bool.{Bool, true, false, cond, ◌&&◌, ◌||◌}
use mathlib.Core.List.{List}
use Prim.Native.Nat.{ℕ, ◌+◌, ◌-◌, ◌%◌, ◌≤◌, ◌<◌}
use native.Mathlib.Omega.{arith}
use borrow.Author.Tests.{le-leb, lt-leb, lt-ltb, le-ltb, eqb-true, eqb-false}
use lib.Dec.{leb, ltb, eqb}
use lib.ListN.{length, get_or, set, length-set}
use Rattle.std.proofs.lemmas.List.{get_or-set_same, get_or-set_other}
use Rattle.grids.proofs.Orders.{le-or-lt}
use Rattle.pictures.specs.Numbers.{largest_number}
use Rattle.seam_keep.specs.Inner.{put_where, refreshed_row, refreshed_by}

length_where : (there : Bool) (c v : ℕ) (row : List ℕ) → length (put_where there c v row) ≡ length row
length_where true c v row = length-set row c (v % 65536)
length_where false c v row = refl

pub length_refreshed : (w k x y : ℕ) (row : List ℕ) → length (refreshed_row w k x y row) ≡ length row
length_refreshed w k x y row = length_where (ltb k w) k y (put_where (ltb 0 k && leb k w) (k - 1) x row) ∙ length_where (ltb 0 k && leb k w) (k - 1) x row

-- The number that was put, and any other.
put_same : (c v : ℕ) (row : List ℕ) → c < length row → v ≤ largest_number → get_or (set row c (v % 65536)) c 0 ≡ v
put_same c v row l small = get_or-set_same row c (v % 65536) 0 l ∙ omega arith

other_where : (there : Bool) (c k v : ℕ) (row : List ℕ) → (there ≡ true → c ≡ k → ⊥) → get_or (put_where there k v row) c 0 ≡ get_or row c 0
other_where true c k v row differ = get_or-set_other row k c (v % 65536) 0 (differ refl)
other_where false c k v row differ = refl

module _ (w k : ℕ) (fresh : ℕ → ℕ) (row : List ℕ) (fits : w ≤ length row) (inside : k ≤ w) (small : (c : ℕ) → fresh c ≤ largest_number) (c : ℕ) (column : c < w) where
  abbrev first : List ℕ
  first = put_where (ltb 0 k && leb k w) (k - 1) (fresh (k - 1)) row

  here : c ≡ k → get_or (refreshed_by w k fresh row) c 0 ≡ fresh c
  here e = rw (lt-ltb k w (omega arith), e) (put_same k (fresh k) first (omega (arith, length_where (ltb 0 k && leb k w) (k - 1) (fresh (k - 1)) row)) (small k))

  not_here : (c ≡ k → ⊥) → get_or (refreshed_by w k fresh row) c 0 ≡ get_or first c 0
  not_here differ = other_where (ltb k w) c k (fresh k) first (λ t e. differ e)

  before : c + 1 ≡ k → get_or (refreshed_by w k fresh row) c 0 ≡ fresh c
  before e =
      let z : k - 1 ≡ c = omega arith in
      not_here (λ d. omega (arith, d)) ∙ rw (lt-ltb 0 k (omega arith), le-leb k w inside, z) (put_same c (fresh c) row (omega arith) (small c))

  neither : (c + 1 ≡ k → ⊥) → (c ≡ k → ⊥) → get_or (refreshed_by w k fresh row) c 0 ≡ get_or row c 0
  neither p q = not_here q ∙ go (le-or-lt k 0)
    where
      go : (k ≤ 0) ⊎ (0 < k) → get_or (put_where (ltb 0 k && leb k w) (k - 1) (fresh (k - 1)) row) c 0 ≡ get_or row c 0
      go (inl l) = rw (le-ltb 0 k l)
      go (inr l) = other_where (ltb 0 k && leb k w) c (k - 1) (fresh (k - 1)) row (λ t e. p (omega (arith, e)))

  pub refreshed_number : get_or (refreshed_by w k fresh row) c 0 ≡ cond (eqb (c + 1) k || eqb c k) (fresh c) (get_or row c 0)
  refreshed_number = go (eqb (c + 1) k) (eqb c k) refl refl
    where
      go : (t u : Bool) → eqb (c + 1) k ≡ t → eqb c k ≡ u → get_or (refreshed_by w k fresh row) c 0 ≡ cond (t || u) (fresh c) (get_or row c 0)
      go true u p q = before (eqb-true (c + 1) k p)
      go false true p q = here (eqb-true c k q)
      go false false p q = neither (eqb-false (c + 1) k p) (eqb-false c k q)

-- Numbers that have a place and are what a function says.
pub refreshed_same : (w k x y : ℕ) (fresh : ℕ → ℕ) (row : List ℕ) → (0 < k → k ≤ w → x ≡ fresh (k - 1)) → (k < w → y ≡ fresh k) → refreshed_row w k x y row ≡ refreshed_by w k fresh row
refreshed_same w k x y fresh row one two = ap (put_where (ltb k w) k y) (front (le-or-lt k 0) (le-or-lt k w)) ∙ back (le-or-lt w k)
  where
    front : (k ≤ 0) ⊎ (0 < k) → (k ≤ w) ⊎ (w < k) → put_where (ltb 0 k && leb k w) (k - 1) x row ≡ put_where (ltb 0 k && leb k w) (k - 1) (fresh (k - 1)) row
    front (inl l) m = rw (le-ltb 0 k l)
    front (inr l) (inl m) = ap (λ v. put_where (ltb 0 k && leb k w) (k - 1) v row) (one l m)
    front (inr l) (inr m) = rw (lt-ltb 0 k l, lt-leb k w m)

    back : (w ≤ k) ⊎ (k < w) → put_where (ltb k w) k y (put_where (ltb 0 k && leb k w) (k - 1) (fresh (k - 1)) row) ≡ refreshed_by w k fresh row
    back (inl l) = rw (le-ltb k w l)
    back (inr l) = ap (λ v. put_where (ltb k w) k v (put_where (ltb 0 k && leb k w) (k - 1) (fresh (k - 1)) row)) (two l)
