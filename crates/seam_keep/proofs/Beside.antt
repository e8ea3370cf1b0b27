-- Where the last column isn't joined to the first, a cut changes the neighbours of just the two pixels beside the seam in each row.
use mathlib.Core.Path.{◌≡◌, refl, sym, ap, ◌∙◌}
use mathlib.Core.Logic.{◌⊎◌, inl, inr}
use mathlib.Core.Bool.{Bool, true, false, ◌||◌}
use mathlib.Core.Option.{some, map, some-injective, none-ne-some}
use mathlib.Core.List.{List}
use Prim.Native.Nat.{ℕ, ◌+◌, ◌-◌, ◌≤◌, ◌<◌}
use native.Mathlib.Nat.{eq-or-lt_of_le}
use native.Mathlib.Omega.{arith}
use lib.Dec.{eqb}
use lib.ListN.{length, get_or}
use borrow.Author.Tests.{le-leb, lt-leb, eq-eqb, ne_eqb}
use Rattle.grids.proofs.Orders.{le-or-lt}
use Rattle.energy.specs.Around.{left_of, right_of}
use Rattle.energy.proofs.Neighbours.{map_above, map_below, left_is, left_none, right_is, right_none}
use Rattle.seam_theory.specs.Paths.{near}
use Rattle.seam_theory.specs.Connected.{linked}
use Rattle.seam_theory.proofs.Linked.{linked_at}
use Rattle.seam_theory.proofs.Nearby.{beside_is}
use Rattle.seam_keep.specs.Refresh.{stood, changed}
use Rattle.seam_keep.proofs.Refresh.{Unchanged, unchanged_of, unchanged_is}

-- Left of the seam a pixel stood where it stands, and from the seam on one column further.
module _ (s : List ℕ) (a c : ℕ) where
  stood_left : c < get_or s a 0 → stood s a c ≡ c
  unfolding stood
  stood_left l = rw (lt-leb (get_or s a 0) c l)

  stood_right : get_or s a 0 ≤ c → stood s a c ≡ c + 1
  unfolding stood
  stood_right l = rw (le-leb (get_or s a 0) c l)

module _ (w h : ℕ) (s : List ℕ) (r c : ℕ) (column : c + 1 < w) where
  abbrev at : ℕ
  at = get_or s r 0

  -- The pixel before the seam has another to its right.
  before_changed : c + 1 ≡ get_or s r 0 → Unchanged false w h s r c → ⊥
  before_changed e u = go (le-or-lt (w - 1) (c + 1))
    where
      has : map (stood s r) (right_of false (w - 1) c) ≡ some (c + 1)
      has = u.right ∙ ap (right_of false w) (stood_left s r c (omega arith)) ∙ right_is w c column

      go : (w - 1 ≤ c + 1) ⊎ (c + 1 < w - 1) → ⊥
      go (inl l) = none-ne-some (c + 1) (sym (ap (map (stood s r)) (right_none (w - 1) c l)) ∙ has)
      go (inr l) =
          let two : stood s r (c + 1) ≡ c + 1 = some-injective (stood s r (c + 1)) (c + 1) (sym (ap (map (stood s r)) (right_is (w - 1) c l)) ∙ has) in
          omega (arith, two, stood_right s r (c + 1) (omega arith))

  -- The one at it has another to its left.
  at_changed : c ≡ get_or s r 0 → Unchanged false w h s r c → ⊥
  at_changed e u = go (le-or-lt c 0)
    where
      has : map (stood s r) (left_of false (w - 1) c) ≡ some (c + 1 - 1)
      has = u.left ∙ ap (left_of false w) (stood_right s r c (omega arith)) ∙ left_is w (c + 1) (omega arith)

      go : (c ≤ 0) ⊎ (0 < c) → ⊥
      go (inl l) = none-ne-some (c + 1 - 1) (sym (ap (map (stood s r)) (left_none (w - 1) c l)) ∙ has)
      go (inr l) =
          let two : stood s r (c - 1) ≡ c + 1 - 1 = some-injective (stood s r (c - 1)) (c + 1 - 1) (sym (ap (map (stood s r)) (left_is (w - 1) c l)) ∙ has) in
          omega (arith, two, stood_left s r (c - 1) (omega arith))

  -- Neighbouring rows differ by at most 1.
  abbrev Close : Type 0
  Close = (a : ℕ) → a < h → (a + 1 ≡ r) ⊎ (a ≡ r + 1) → (get_or s a 0 ≤ get_or s r 0 + 1) × (get_or s r 0 ≤ get_or s a 0 + 1)

  -- Further left nothing has changed,
  far_left : r < h → Close → c + 1 < get_or s r 0 → get_or s r 0 < w → Unchanged false w h s r c
  far_left row close l k = record {
    left = lefts (le-or-lt c 0) ∙ ap (left_of false w) (sym own);
    right = ap (map (stood s r)) (right_is (w - 1) c (omega arith)) ∙ ap some (stood_left s r (c + 1) l) ∙ sym (right_is w c column) ∙ ap (right_of false w) (sym own);
    up = map_above (λ a. stood s a c) (λ a. stood s r c) r (λ a e. stood_left s a c (omega (arith, close a (omega arith) (inl e))) ∙ sym own);
    down = map_below (λ a. stood s a c) (λ a. stood s r c) h r (λ i. stood_left s (r + 1) c (omega (arith, close (r + 1) i (inr refl))) ∙ sym own);
  }
    where
      own : stood s r c ≡ c
      own = stood_left s r c (omega arith)

      lefts : (c ≤ 0) ⊎ (0 < c) → map (stood s r) (left_of false (w - 1) c) ≡ left_of false w c
      lefts (inl z) = ap (map (stood s r)) (left_none (w - 1) c z) ∙ sym (left_none w c z)
      lefts (inr z) = ap (map (stood s r)) (left_is (w - 1) c z) ∙ ap some (stood_left s r (c - 1) (omega arith)) ∙ sym (left_is w c z)

  -- and further right neither.
  far_right : r < h → Close → get_or s r 0 < c → Unchanged false w h s r c
  far_right row close l = record {
    left = ap (map (stood s r)) (left_is (w - 1) c (omega arith)) ∙ ap some (stood_right s r (c - 1) (omega arith) ∙ back) ∙ sym (left_is w (c + 1) (omega arith)) ∙ ap (left_of false w) (sym own);
    right = rights (le-or-lt (w - 1) (c + 1)) ∙ ap (right_of false w) (sym own);
    up = map_above (λ a. stood s a c) (λ a. stood s r c) r (λ a e. stood_right s a c (omega (arith, close a (omega arith) (inl e))) ∙ sym own);
    down = map_below (λ a. stood s a c) (λ a. stood s r c) h r (λ i. stood_right s (r + 1) c (omega (arith, close (r + 1) i (inr refl))) ∙ sym own);
  }
    where
      own : stood s r c ≡ c + 1
      own = stood_right s r c (omega arith)

      back : c - 1 + 1 ≡ c + 1 - 1
      back = omega arith

      rights : (w - 1 ≤ c + 1) ⊎ (c + 1 < w - 1) → map (stood s r) (right_of false (w - 1) c) ≡ right_of false w (c + 1)
      rights (inl z) = ap (map (stood s r)) (right_none (w - 1) c z) ∙ sym (right_none w (c + 1) (omega arith))
      rights (inr z) = ap (map (stood s r)) (right_is (w - 1) c z) ∙ ap some (stood_right s r (c + 1) (omega arith)) ∙ sym (right_is w (c + 1) (omega arith))

  -- So just these two have changed, and none is worked out in vain.
  changed_close : r < h → Close → get_or s r 0 < w → changed false w h s r c ≡ (eqb (c + 1) (get_or s r 0) || eqb c (get_or s r 0))
  changed_close row close k = go (le-or-lt (c + 1) (get_or s r 0))
    where
      is_changed : (Unchanged false w h s r c → ⊥) → changed false w h s r c ≡ true
      is_changed never = by (changed false w h s r c) refl
        where
          by : (t : Bool) → changed false w h s r c ≡ t → t ≡ true
          by true e = refl
          by false e = absurd (never (unchanged_of false w h s r c e))

      right : (get_or s r 0 ≡ c) ⊎ (get_or s r 0 < c) → changed false w h s r c ≡ (eqb (c + 1) (get_or s r 0) || eqb c (get_or s r 0))
      right (inl e) = rw (ne_eqb (c + 1) (get_or s r 0) (λ z. omega arith), eq-eqb c (get_or s r 0) (sym e)) (is_changed (at_changed (sym e)))
      right (inr l) =
          rw (ne_eqb (c + 1) (get_or s r 0) (λ z. omega arith), ne_eqb c (get_or s r 0) (λ z. omega arith))
          (unchanged_is false w h s r c (far_right row close l))

      left : (c + 1 ≡ get_or s r 0) ⊎ (c + 1 < get_or s r 0) → changed false w h s r c ≡ (eqb (c + 1) (get_or s r 0) || eqb c (get_or s r 0))
      left (inl e) = rw (eq-eqb (c + 1) (get_or s r 0) e) (is_changed (before_changed e))
      left (inr l) =
          rw (ne_eqb (c + 1) (get_or s r 0) (λ z. omega arith), ne_eqb c (get_or s r 0) (λ z. omega arith))
          (unchanged_is false w h s r c (far_left row close l k))

      go : (c + 1 ≤ get_or s r 0) ⊎ (get_or s r 0 < c + 1) → changed false w h s r c ≡ (eqb (c + 1) (get_or s r 0) || eqb c (get_or s r 0))
      go (inl l) = left (eq-or-lt_of_le l)
      go (inr l) = right (eq-or-lt_of_le (omega arith))

-- So it is of a connected seam.
pub changed_beside : (w h : ℕ) (s : List ℕ) (r c : ℕ) → length s ≡ h → ((a : ℕ) → a < h → get_or s a 0 < w) → linked (near false w) s ≡ true
    → r < h → c + 1 < w → changed false w h s r c ≡ (eqb (c + 1) (get_or s r 0) || eqb c (get_or s r 0))
changed_beside w h s r c long inside joined row column = changed_close w h s r c column row near_rows (inside r row)
  where
    next : (a : ℕ) → a + 1 < h → (get_or s (a + 1) 0 ≤ get_or s a 0 + 1) × (get_or s a 0 ≤ get_or s (a + 1) 0 + 1)
    next a l = (beside_is (get_or s a 0) (get_or s (a + 1) 0)).0 (linked_at (near false w) s a (omega arith) joined)

    near_rows : (a : ℕ) → a < h → (a + 1 ≡ r) ⊎ (a ≡ r + 1) → (get_or s a 0 ≤ get_or s r 0 + 1) × (get_or s r 0 ≤ get_or s a 0 + 1)
    near_rows a l (inl e) = let n = next a (omega arith) in rw (← e) (n.1, n.0)
    near_rows a l (inr e) = rw e (next r (omega arith))
