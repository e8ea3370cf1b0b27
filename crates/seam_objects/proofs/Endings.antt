-- What each ending says, and what a removal leaves. The definition computes by the budget, so it ends for every input.
use mathlib.Core.Path.{◌≡◌, refl}
use mathlib.Core.Bool.{Bool, true, false}
use Prim.Native.Nat.{ℕ, zero, suc}
use lib.Dec.{eqb}
use borrow.Author.Tests.{eq-eqb, ne_eqb, eqb-true, eqb-false}
use Rattle.seam_objects.specs.Objects.{MarkedPicture, to_remove, no_seam, cut_once, Removed, ends, removal}
use Rattle.seam_rules.specs.declared.answers.Ending.TheVariants.{Done, Narrow, Spent, Blocked}

-- The steps, one law each.
module _ (n : ℕ) (s : MarkedPicture) where
  pub removal_done : (b : ℕ) → to_remove s ≡ false → removal b n s ≡ ends Done n s
  unfolding removal
  removal_done zero e = rw e
  removal_done (suc b) e = rw e

  module _ (some : to_remove s ≡ true) where
    pub removal-narrow : (b : ℕ) → s.width ≡ 1 → removal b n s ≡ ends Narrow n s
    unfolding removal
    removal-narrow zero e = rw (some, eq-eqb _ _ e)
    removal-narrow (suc b) e = rw (some, eq-eqb _ _ e)

    module _ (wide : s.width ≡ 1 → ⊥) where
      pub removal-spent : removal 0 n s ≡ ends Spent n s
      unfolding removal
      removal-spent = rw (some, ne_eqb _ _ wide)

      pub removal-blocked : (b : ℕ) → no_seam s ≡ true → removal (suc b) n s ≡ ends Blocked n s
      unfolding removal
      removal-blocked b e = rw (some, ne_eqb _ _ wide, e)

      pub removal-cut : (b : ℕ) → no_seam s ≡ false → removal (suc b) n s ≡ removal b (suc n) (cut_once s)
      unfolding removal
      removal-cut b e = rw (some, ne_eqb _ _ wide, e)

-- What holds of each ending, and before a cut of whatever follows it, holds of every removal.
module _
    (P : ℕ → ℕ → MarkedPicture → Removed → Type 0)
    (at_done : (b n : ℕ) (s : MarkedPicture) → to_remove s ≡ false → P b n s (ends Done n s))
    (at_narrow : (b n : ℕ) (s : MarkedPicture) → to_remove s ≡ true → s.width ≡ 1 → P b n s (ends Narrow n s))
    (at-spent : (n : ℕ) (s : MarkedPicture) → to_remove s ≡ true → (s.width ≡ 1 → ⊥) → P 0 n s (ends Spent n s))
    (at-blocked : (b n : ℕ) (s : MarkedPicture) → to_remove s ≡ true → (s.width ≡ 1 → ⊥) → no_seam s ≡ true → P (suc b) n s (ends Blocked n s))
    (at_cut : (b n : ℕ) (s : MarkedPicture) (r : Removed) → to_remove s ≡ true → (s.width ≡ 1 → ⊥) → no_seam s ≡ false → P b (suc n) (cut_once s) r → P (suc b) n s r)
  where
    pub by-steps : (b n : ℕ) (s : MarkedPicture) → P b n s (removal b n s)
    by-steps zero n s = go (to_remove s) refl (eqb s.width 1) refl
      where
        go : (t : Bool) → to_remove s ≡ t → (u : Bool) → eqb s.width 1 ≡ u → P zero n s (removal zero n s)
        go false e u f = rw (removal_done n s zero e) (at_done zero n s e)
        go true e true f =
            let one = eqb-true _ _ f in
            rw (removal-narrow n s e zero one) (at_narrow zero n s e one)
        go true e false f = let wide = eqb-false _ _ f in rw (removal-spent n s e wide) (at-spent n s e wide)
    by-steps (suc b) n s = go (to_remove s) refl (eqb s.width 1) refl (no_seam s) refl (by-steps b (suc n) (cut_once s))
      where
        go : (t : Bool) → to_remove s ≡ t → (u : Bool) → eqb s.width 1 ≡ u → (v : Bool) → no_seam s ≡ v
            → P b (suc n) (cut_once s) (removal b (suc n) (cut_once s)) → P (suc b) n s (removal (suc b) n s)
        go false e u f v g next = rw (removal_done n s (suc b) e) (at_done (suc b) n s e)
        go true e true f v g next =
            let one = eqb-true _ _ f in
            rw (removal-narrow n s e (suc b) one) (at_narrow (suc b) n s e one)
        go true e false f true g next =
            let wide = eqb-false _ _ f in
            rw (removal-blocked n s e wide b g) (at-blocked b n s e wide g)
        go true e false f false g next =
            let wide = eqb-false _ _ f in
            rw (removal-cut n s e wide b g) (at_cut b n s (removal b (suc n) (cut_once s)) e wide g next)
