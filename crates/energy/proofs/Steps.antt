-- Laws of the cost of a step: by the column that it comes from, and that by a rule of one cost it is the pixel's energy wherever it
-- comes from.
use mathlib.Core.Path.{◌≡◌, refl, sym, ap, ◌∙◌}
use mathlib.Core.Bool.{Bool, true, false, cond, ◌||◌, true≢false}
use mathlib.Core.Option.{Option, none, some}
use Prim.Native.Nat.{ℕ, ◌-◌, ◌<◌}
use native.Mathlib.Nat.{add-zero, pos_of_ne-zero}
use lib.Dec.{eqb}
use borrow.Author.Tests.{lt-ltb, eq-eqb, ne_eqb, eqb-true, eqb-false}
use Rattle.grids.specs.Table.{table}
use Rattle.grids.proofs.Bools.{neither}
use Rattle.pictures.specs.Pictures.{Picture}
use Rattle.energy.specs.Around.{Around, left_of, above_of, around}
use Rattle.energy.specs.declared.methods.EnergyRule.{EnergyRule}
use Rattle.energy.specs.declared.methods.EnergyRule.TheVariants.{Edge, Flat, Forward}
use Rattle.energy.specs.declared.methods.Method.{Method}
use Rattle.energy.specs.Methods.{wrap_of}
use Rattle.energy.specs.Energy.{StepCosts, alike, across, forward, costs_from, one_cost, costs_at, energy, energies, left_costs, right_costs, is_the, toward, step_of}

-- Every column but the first has the one before it to its left.
pub left_inner : (wrap : Bool) (w c : ℕ) → 0 < c → left_of wrap w c ≡ some (c - 1)
unfolding left_of
left_inner wrap w c h = rw (lt-ltb 0 c h)

-- The first has the last to its left where the two are joined.
pub left-first : (w : ℕ) → left_of true w 0 ≡ some (w - 1)
unfolding left_of
left-first w = refl

-- Otherwise it has none.
pub left-none : (w : ℕ) → left_of false w 0 ≡ none
unfolding left_of
left-none w = refl

-- A column that isn't this one.
not_the : (o : Option ℕ) (a : ℕ) → (o ≡ some a → ⊥) → is_the o a ≡ false
not_the none a n = refl
not_the (some b) a n = ne_eqb a b (λ e. n (ap some (sym e)))

-- Which of the three costs a step to column c has, by the column that it comes from.
module _ (wrap : Bool) (w : ℕ) where
  -- The one from straight above, from the same column.
  pub toward_up : (c : ℕ) (k : StepCosts) → toward wrap w c c k ≡ k.up
  unfolding toward
  toward_up c k = rw (eq-eqb c c refl)

  -- The one from the left, from the column to the left.
  pub toward-left : (a c : ℕ) (k : StepCosts) → (a ≡ c → ⊥) → left_of wrap w c ≡ some a → toward wrap w a c k ≡ k.left
  unfolding toward
  toward-left a c k n l = rw (ne_eqb a c n, l, eq-eqb a a refl)

  -- The one from the right, from any other.
  pub toward_right : (a c : ℕ) (k : StepCosts) → (a ≡ c → ⊥) → (left_of wrap w c ≡ some a → ⊥) → toward wrap w a c k ≡ k.right
  unfolding toward
  toward_right a c k n l = rw (ne_eqb a c n, not_the (left_of wrap w c) a l)

  -- From any column, where the three are alike.
  pub toward-alike : (a c e : ℕ) → toward wrap w a c (alike e) ≡ e
  unfolding toward
  toward-alike a c e = go (eqb a c) (is_the (left_of wrap w c) a)
    where
      go : (same left : Bool) → cond same e (cond left e e) ≡ e
      go true left = refl
      go false true = refl
      go false false = refl

-- Forward is no rule of one cost, and it alone isn't.
pub not-forward : one_cost Forward ≡ true → ⊥
not-forward one = true≢false (sym one)

pub is_forward : (rule : EnergyRule) → one_cost rule ≡ false → rule ≡ Forward
is_forward Edge one = absurd (true≢false one)
is_forward Flat one = absurd (true≢false one)
is_forward Forward one = refl

-- By a rule of one cost all three costs of a pixel are its energy.
rule_alike : (rule : EnergyRule) → one_cost rule ≡ true → (a : Around) → costs_from rule a ≡ alike (costs_from rule a).up
unfolding costs_from
rule_alike Edge one a = refl
rule_alike Flat one a = refl
rule_alike Forward one a = absurd (not-forward one)

module _ (how : Method) (one : one_cost how.energy ≡ true) (w h : ℕ) (p : Picture) where
  pub costs-alike : (r c : ℕ) → costs_at how w h p r c ≡ alike (energy how w h p r c)
  unfolding costs_at
  costs-alike r c = rule_alike how.energy one (around (wrap_of how) w h p r c)

  -- So a step costs the energy of the pixel that it comes to.
  pub step-energy : (i a c : ℕ) → step_of how w h p i a c ≡ energy how w h p i c
  step-energy i a c =
      ap (toward (wrap_of how) w a c) (costs-alike i c)
      ∙ toward-alike (wrap_of how) w a c (energy how w h p i c)

  -- and the costs of a row are its energies.
  pub left-alike : (r : ℕ) → left_costs how w h p r ≡ energies how w h p r
  left-alike r = ap (λ (k : ℕ → StepCosts). table (λ c. (k c).left) w) (λ j c. costs-alike r c j)

  pub right-alike : (r : ℕ) → right_costs how w h p r ≡ energies how w h p r
  right-alike r = ap (λ (k : ℕ → StepCosts). table (λ c. (k c).right) w) (λ j c. costs-alike r c j)

-- "In the first row the cost is C_U": there, by every rule, the three costs are alike.
first_row : (rule : EnergyRule) (wrap : Bool) (w h : ℕ) (p : Picture) (c : ℕ) → costs_from rule (around wrap w h p 0 c) ≡ alike (costs_from rule (around wrap w h p 0 c)).up
unfolding costs_from above_of
first_row Edge wrap w h p c = refl
first_row Flat wrap w h p c = refl
first_row Forward wrap w h p c =
    let a = around wrap w h p 0 c in
    ap (λ n. record { left = n; up = across a; right = n }) (add-zero (across a))

module _ (how : Method) (w h : ℕ) (p : Picture) where
  pub costs-first : (c : ℕ) → costs_at how w h p 0 c ≡ alike (energy how w h p 0 c)
  unfolding costs_at
  costs-first = first_row how.energy (wrap_of how) w h p

  pub left-first_row : left_costs how w h p 0 ≡ energies how w h p 0
  left-first_row = ap (λ (k : ℕ → StepCosts). table (λ c. (k c).left) w) (λ j c. costs-first c j)

  pub right-first_row : right_costs how w h p 0 ≡ energies how w h p 0
  right-first_row = ap (λ (k : ℕ → StepCosts). table (λ c. (k c).right) w) (λ j c. costs-first c j)

  -- So the three are the same in row 0, and by a rule of one cost in every row.
  pub alike_row : (r : ℕ) → (one_cost how.energy || eqb r 0) ≡ true
      → (left_costs how w h p r ≡ energies how w h p r) × (right_costs how w h p r ≡ energies how w h p r)
  alike_row r either = go (one_cost how.energy) refl
    where
      go : (t : Bool) → one_cost how.energy ≡ t → (left_costs how w h p r ≡ energies how w h p r) × (right_costs how w h p r ≡ energies how w h p r)
      go true one = (left-alike how one w h p r, right-alike how one w h p r)
      go false other =
          let first : r ≡ 0 = eqb-true r 0 (rw other at either) in
          rw first (left-first_row, right-first_row)

  -- By forward the costs are those that the source gives.
  pub forward-costs : one_cost how.energy ≡ false → (r c : ℕ) → costs_at how w h p r c ≡ forward (around (wrap_of how) w h p r c)
  unfolding costs_at costs_from
  forward-costs other r c = rw (is_forward how.energy other)

-- Elsewhere the rule isn't one of one cost, and there is a row above.
pub not-alike : (rule : EnergyRule) (r : ℕ) → (one_cost rule || eqb r 0) ≡ false → (one_cost rule ≡ false) × (0 < r)
not-alike rule r e =
    let t = neither (one_cost rule) (eqb r 0) e in
    (t.0, pos_of_ne-zero (eqb-false r 0 t.1))
