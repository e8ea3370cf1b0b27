-- Kept costs: of a row, as they are lent and as they are read one by one, and their bounds.
use mathlib.Core.Path.{◌≡◌, refl, sym, ap, ◌∙◌}
use mathlib.Core.Bool.{Bool, true, false, cond}
use mathlib.Core.Logic.{inr}
use mathlib.Core.List.{List}
use Prim.Native.Nat.{ℕ, ◌+◌, ◌*◌, ◌≤◌, ◌<◌}
use native.Mathlib.Omega.{arith}
use lib.ListN.{length, get_or, take, drop}
use Rattle.pictures.specs.declared.sizes.Size.{Size}
use Rattle.pictures.specs.Numbers.{numbers_in, largest_number}
use Rattle.pictures.proofs.Limits.{sides_are}
use Rattle.pictures.proofs.TwoBytes.{length-numbers}
use Rattle.energy.specs.declared.methods.EnergyRule.{EnergyRule}
use Rattle.energy.specs.Energy.{one_cost}
use Rattle.seam_theory.specs.Sums.{CostRows, alike_rows, first_of3, way_of3}
use Rattle.seam_theory.proofs.Alike.{way_alike}
use Rattle.seam_theory.proofs.Ways.{way_plain}
use Rattle.seam_find_kept.specs.Finding.{costs_in}
use Rattle.seam_find_kept.specs.Inner.Down.{PlanesNeeded}
use Rattle.seam_find_kept.specs.Inner.Rows.{step_rows}
use Rattle.seam_find_kept.proofs.PlaneRows.{bytes_at, row_of, row_is, row-small, bytes-long, row_at_c}

-- The costs of a row: all alike in one plane, or in three.
module _ (rule : EnergyRule) (z : Size) (w : ℕ) (up left right : List ℕ) (i : ℕ) where
  abbrev three_rows : CostRows
  three_rows = record { left = row_of z w i left; up = row_of z w i up; right = row_of z w i right }

  pub kept_by-one : one_cost rule ≡ true → costs_in rule z w up left right i ≡ alike_rows (row_of z w i up)
  kept_by-one e = ap (λ b. cond b (alike_rows (row_of z w i up)) three_rows) e

  pub kept_by-steps : one_cost rule ≡ false
      → costs_in rule z w up left right i ≡ record { left = row_of z w i left; up = row_of z w i up; right = row_of z w i right }
  kept_by-steps e = ap (λ b. cond b (alike_rows (row_of z w i up)) three_rows) e

  pub kept_up : (costs_in rule z w up left right i).up ≡ row_of z w i up
  kept_up = go (one_cost rule)
    where
      go : (b : Bool) → (cond b (alike_rows (row_of z w i up)) three_rows).up ≡ row_of z w i up
      go true = refl
      go false = refl

  -- As they are lent.
  module _ (narrow : w ≤ z.width) (inside : i < z.height) where
    pub one-lent : {x : List ℕ} → one_cost rule ≡ true → x ≡ bytes_at z w i up
        → alike_rows (numbers_in x) ≡ costs_in rule z w up left right i
    one-lent e is = ap alike_rows (ap numbers_in is ∙ sym (row_is z w i up narrow inside)) ∙ sym (kept_by-one e)

    pub steps-lent : {x y t : List ℕ} → one_cost rule ≡ false → x ≡ bytes_at z w i up → y ≡ bytes_at z w i left → t ≡ bytes_at z w i right
        → step_rows x y t ≡ costs_in rule z w up left right i
    steps-lent {x = x} {y = y} {t = t} e p q r =
        let u = ap numbers_in p ∙ sym (row_is z w i up narrow inside) in
        let v = ap numbers_in q ∙ sym (row_is z w i left narrow inside) in
        let s = ap numbers_in r ∙ sym (row_is z w i right narrow inside) in
        let same : step_rows x y t ≡ three_rows = λ j. record { left = v j; up = u j; right = s j } in
        same ∙ sym (kept_by-steps e)

  -- Which of the sums x above column c is the least, with the costs as they are read from whole planes.
  module _ (narrow : w ≤ z.width) (inside : i < z.height) (x : List ℕ) (c : ℕ) (l : c < w) where
    pub way_by-one : one_cost rule ≡ true
        → way_of3 false w x (costs_in rule z w up left right i) c ≡ first_of3 (get_or x c 0) (get_or x (c + 1) 0) (get_or x (c + 2) 0)
    way_by-one e = ap (λ k. way_of3 false w x k c) (kept_by-one e) ∙ way_alike w x (row_of z w i up) c

    pub way_by-steps : one_cost rule ≡ false → way_of3 false w x (costs_in rule z w up left right i) c
        ≡ first_of3 (get_or x c 0 + get_or (numbers_in left) (i * z.width + c) 0)
        (get_or x (c + 1) 0 + get_or (numbers_in up) (i * z.width + c) 0)
        (get_or x (c + 2) 0 + get_or (numbers_in right) (i * z.width + c) 0)
    way_by-steps e =
        ap (λ k. way_of3 false w x k c) (kept_by-steps e)
        ∙ way_plain false w x three_rows c (inr refl) (inr refl)
        ∙ rw (← row_at_c z w i c left narrow inside l, ← row_at_c z w i c up narrow inside l, ← row_at_c z w i c right narrow inside l) refl

-- Row 0.
pub front-costs : (rule : EnergyRule) (z : Size) (w : ℕ) (up left right : List ℕ) → w ≤ z.width → 0 < z.height
    → numbers_in (take (2 * w) up) ≡ (costs_in rule z w up left right 0).up
front-costs rule z w up left right narrow some =
    let none : 0 * (2 * z.width) ≡ 0 = omega arith in
    sym (kept_up rule z w up left right 0 ∙ row_is z w 0 up narrow some ∙ ap (λ n. numbers_in (take (2 * w) (drop n up))) none)

-- Costs of w columns, none of which is more than a number of two bytes.
pub record Cheap (k : ℕ → CostRows) (w : ℕ) : Type 0 where
  pub wide : length (k 0).up ≡ w
  pub few : (i c : ℕ) → get_or (k i).up c 0 ≤ largest_number

pub kept-cheap : (rule : EnergyRule) (z : Size) (w : ℕ) (up left right : List ℕ)
    → PlanesNeeded z w (one_cost rule) up (length left) (length right)
    → Cheap (costs_in rule z w up left right) w
kept-cheap rule z w up left right n =
    let s = sides_are z n.sides in
    let front = bytes_at z w 0 up in
    record {
      wide =
          ap length (kept_up rule z w up left right 0 ∙ row_is z w 0 up n.within s.height_some)
          ∙ omega (arith, length-numbers front, bytes-long z w 0 up n.within s.height_some n.up_long);
      few = λ i c. omega (arith, ap (λ r. get_or r c 0) (kept_up rule z w up left right i), row-small z w i up n.within n.bytes c);
    }
