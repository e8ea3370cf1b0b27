-- What the step and the axis taken say of the numbers that they were chosen by.
use mathlib.Core.Path.{◌≡◌, refl}
use Rattle.std.specs.Prelude.{None, Some}
use mathlib.Core.Bool.{Bool, true, false, not, cond}
use Prim.Native.Nat.{ℕ, ◌≤◌, ◌<◌}
use native.Mathlib.Omega.{arith}
use lib.Dec.{eqb, leb}
use borrow.Author.Tests.{eqb-true, eqb-false, leb-true, leb-false}
use Rattle.seam_rules.specs.declared.answers.Axis.TheVariants.{Vertical, Horizontal}
use Rattle.seam_rules.specs.declared.answers.Ending.TheVariants.{Done, Narrow, Spent}
use Rattle.seam_rules.specs.declared.answers.Removal.{Removal}
use Rattle.seam_rules.specs.Counts.{chosen_axis}
use Rattle.seam_rules.specs.Endings.{ended, next_step}

-- The axis of the smaller total, on a tie the vertical one.
pub vertical_taken : (v h : ℕ) → chosen_axis v h ≡ Vertical → v ≤ h
vertical_taken v h = go (leb v h) refl
  where
    go : (t : Bool) → leb v h ≡ t → cond t Vertical Horizontal ≡ Vertical → v ≤ h
    go true e c = leb-true v h e
    go false e c = let z : ◌≡◌ {A = ℕ} 0 1 = cc in absurd (omega arith)

pub horizontal_taken : (v h : ℕ) → chosen_axis v h ≡ Horizontal → h < v
horizontal_taken v h = go (leb v h) refl
  where
    go : (t : Bool) → leb v h ≡ t → cond t Vertical Horizontal ≡ Horizontal → h < v
    go true e c = let z : ◌≡◌ {A = ℕ} 0 1 = cc in absurd (omega arith)
    go false e c = leb-false v h e

-- A removal that goes on: a pixel is marked 2, more than one column is left, and the budget isn't spent.
pub record GoesOn (marked : Bool) (width count budget : ℕ) : Type 0 where
  pub some : marked ≡ true
  pub wide : width ≡ 1 → ⊥
  pub due : count ≡ budget → ⊥

module _ (marked : Bool) (width count budget : ℕ) where
  pub step_cut : next_step marked width count budget ≡ None → GoesOn marked width count budget
  step_cut = go marked refl (eqb width 1) refl (eqb count budget) refl
    where
      go : (t : Bool) → marked ≡ t → (u : Bool) → eqb width 1 ≡ u → (v : Bool) → eqb count budget ≡ v
          → cond (not t) (ended Done count) (cond u (ended Narrow count) (cond v (ended Spent count) None)) ≡ None → GoesOn marked width count budget
      go false e u f v g c = let z : ◌≡◌ {A = ℕ} 0 1 = cc in absurd (omega arith)
      go true e true f v g c = let z : ◌≡◌ {A = ℕ} 0 1 = cc in absurd (omega arith)
      go true e false f true g c = let z : ◌≡◌ {A = ℕ} 0 1 = cc in absurd (omega arith)
      go true e false f false g c = record { some = e; wide = eqb-false _ _ f; due = eqb-false _ _ g }

  -- What holds of each of the three endings holds of the one that is given.
  pub step-ended : (P : Removal → Type 0) → (marked ≡ false → P (record { ending = Done; count = count }))
      → (marked ≡ true → width ≡ 1 → P (record { ending = Narrow; count = count }))
      → (marked ≡ true → (width ≡ 1 → ⊥) → count ≡ budget → P (record { ending = Spent; count = count }))
      → (how : Removal) → next_step marked width count budget ≡ Some how → P how
  step-ended P at_done at_narrow at-spent how = go marked refl (eqb width 1) refl (eqb count budget) refl
    where
      go : (t : Bool) → marked ≡ t → (u : Bool) → eqb width 1 ≡ u → (v : Bool) → eqb count budget ≡ v
          → cond (not t) (ended Done count) (cond u (ended Narrow count) (cond v (ended Spent count) None)) ≡ Some how → P how
      go false e u f v g c = let same : how ≡ record { ending = Done; count = count } = cc in rw same (at_done e)
      go true e true f v g c = let same : how ≡ record { ending = Narrow; count = count } = cc in rw same (at_narrow e (eqb-true _ _ f))
      go true e false f true g c = let same : how ≡ record { ending = Spent; count = count } = cc in rw same (at-spent e (eqb-false _ _ f) (eqb-true _ _ g))
      go true e false f false g c = let z : ◌≡◌ {A = ℕ} 0 1 = cc in absurd (omega arith)
