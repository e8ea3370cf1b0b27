-- How two columns can be near each other, by the side on which one is of the other. The join counts from three columns on.
use mathlib.Core.Path.{◌≡◌, sym}
use mathlib.Core.Logic.{inl, inr, ⊎_elim}
use mathlib.Core.Bool.{Bool, true}
use Prim.Native.Nat.{ℕ, ◌+◌, ◌≤◌, ◌<◌}
use native.Mathlib.Nat.{eq-or-lt_of_le}
use native.Mathlib.Omega.{arith}
use lib.Dec.{ltb}
use borrow.Author.Tests.{lt-ltb, ltb-true}
use Rattle.grids.proofs.Bools.{both}
use Rattle.grids.proofs.Orders.{le-or-lt}
use Rattle.seam_theory.specs.Paths.{near}
use Rattle.seam_theory.specs.Sums.{joined_at}
use Rattle.seam_theory.proofs.Nearby.{Joins, near_is}

-- Column a is left of c, is c, is right of c, or is at the other end of the row.
pub data Near (join : Bool) (w c a : ℕ) : Type 0 where
  left : a + 1 ≡ c → Near join w c a
  same : a ≡ c → Near join w c a
  right : a ≡ c + 1 → Near join w c a
  over_left : join ≡ true → c ≡ 0 → a + 1 ≡ w → Near join w c a
  over_right : join ≡ true → a ≡ 0 → c + 1 ≡ w → Near join w c a

module _ (wrap : Bool) (w : ℕ) where
  -- Where the join counts there are three columns.
  pub joined_is : joined_at wrap w ≡ true → (wrap ≡ true) × (2 < w)
  joined_is j = let b = both wrap (ltb 2 w) j in (b.0, ltb-true 2 w b.1)

  joined_of : wrap ≡ true → 2 < w → joined_at wrap w ≡ true
  joined_of y l = rw (y, lt-ltb 2 w l)

  module _ (c a : ℕ) where
    -- These are all ways in which columns are near.
    pub near-cases : c < w → a < w → near wrap w c a ≡ true → Near (joined_at wrap w) w c a
    near-cases h k e = ⊎_elim (λ d. over d.1 d.0) (λ d. besides d.0 d.1) ((near_is wrap w c a).0 e)
      where
        besides : a ≤ c + 1 → c ≤ a + 1 → Near (joined_at wrap w) w c a
        besides p q =
            ⊎_elim
            (λ l. ⊎_elim (λ d. left (sym d)) (λ d. same (omega arith)) (eq-or-lt_of_le q))
            (λ l. right (omega arith))
            (le-or-lt a c)

        -- Of two columns the ends are beside each other.
        over : Joins w c a → wrap ≡ true → Near (joined_at wrap w) w c a
        over (inl d) y = ⊎_elim (λ (l : w ≤ 2). besides (omega arith) (omega arith)) (λ l. over_left (joined_of y l) d.0 d.1) (le-or-lt w 2)
        over (inr d) y = ⊎_elim (λ (l : w ≤ 2). besides (omega arith) (omega arith)) (λ l. over_right (joined_of y l) d.0 d.1) (le-or-lt w 2)

    -- Columns beside each other are near,
    pub near-beside : a ≤ c + 1 → c ≤ a + 1 → near wrap w c a ≡ true
    near-beside p q = (near_is wrap w c a).1 (inr (p, q))

    -- and so are the ends of a row where the join counts.
    pub near-over : joined_at wrap w ≡ true → Joins w c a → near wrap w c a ≡ true
    near-over j d = (near_is wrap w c a).1 (inl ((joined_is j).0, d))
