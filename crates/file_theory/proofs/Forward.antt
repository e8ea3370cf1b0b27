-- In an accepted file whose energy word is `forward` each recorded seam is least in forward cost among all connected paths.
use mathlib.Core.Path.{◌≡◌, refl, sym, ap, ap₂, ◌∙◌}
use mathlib.Core.Bool.{Bool, true, false, cond, false≢true}
use mathlib.Core.Option.{none, some, map, get_or}
use mathlib.Core.List.{List, [], ◌∷◌, reverse}
use Prim.Native.Nat.{ℕ, zero, suc, ◌+◌, ◌-◌, ◌≤◌}
use native.Mathlib.Omega.{arith}
use lib.Dec.{eqb, ltb}
use lib.ListN.{length}
use borrow.Author.Tests.{eqb-true, eq-eqb, ne_eqb, lt-ltb}
use Rattle.pictures.specs.Pictures.{Picture, pixel}
use Rattle.energy.specs.declared.methods.EnergyRule.TheVariants.{Forward}
use Rattle.energy.specs.declared.methods.Method.{Method}
use Rattle.energy.specs.Methods.{wrap_of}
use Rattle.energy.specs.Around.{left_of, right_of, above_of, around}
use Rattle.energy.specs.Energy.{difference, away, StepCosts, left_or_it, right_or_it, forward, costs_from, costs_at, is_the, toward}
use Rattle.energy.proofs.Steps.{left_inner, left-none}
use Rattle.seam_theory.specs.Paths.{cost}
use Rattle.seam_theory.specs.PictureSeams.{path_cost}
use Rattle.seam_theory.specs.Chosen.{IsSeam}
use Rattle.map_theory.specs.Judged.{before, recorded}
use Rattle.text_theory.specs.Words.{rule_text}
use Rattle.text_theory.specs.Files.{Parts, parse}
use Rattle.text_theory.proofs.Pairs.{reads_injective}
use Rattle.text_theory.proofs.Names.{rule_reads}
use Rattle.file_theory.specs.Shows.{Accepted, energy_word}
use Rattle.file_theory.specs.Forward.{one_left, one_right, cost_up, cost_left, cost_right, step_cost, forward_cost, LeastForward}
use Rattle.file_theory.proofs.WellFormed.{accepted_well_formed, accepted-cheapest}

-- By `forward` a step to column j of a row comes from the left where its column of the row above is j−1.
from_left : (w above j : ℕ) → is_the (left_of false w j) above ≡ eqb (above + 1) j
from_left w above zero = rw (left-none w) (sym (ne_eqb (above + 1) 0 (λ e. omega (arith, e))))
from_left w above (suc j) = rw (left_inner false w (suc j) (omega arith)) (go (eqb above (suc j - 1)) refl)
  where
    go : (t : Bool) → eqb above (suc j - 1) ≡ t → t ≡ eqb (above + 1) (suc j)
    go true e = let z = eqb-true above (suc j - 1) e in sym (eq-eqb (above + 1) (suc j) (omega (arith, z)))
    go false e = sym (ne_eqb (above + 1) (suc j) (λ z. false≢true (sym e ∙ eq-eqb above (suc j - 1) (omega (arith, z)))))

module _ (w h : ℕ) (p : Picture) where
  -- The neighbours of a pixel in its row, or the pixel itself.
  left_same : (i j : ℕ) → left_or_it (around false w h p i j) ≡ one_left w p i j
  left_same i zero = rw (left-none w)
  left_same i (suc j) = let z : suc j - 1 ≡ j = omega arith in rw (left_inner false w (suc j) (omega arith), z)

  right_same : (i j : ℕ) → right_or_it (around false w h p i j) ≡ one_right w p i j
  unfolding right_of
  right_same i j = go (ltb (j + 1) w)
    where
      go : (t : Bool) → get_or (map (pixel p i) (cond t (some (j + 1)) none)) (pixel p i j) ≡ cond t (pixel p i (j + 1)) (pixel p i j)
      go true = refl
      go false = refl

  -- The three costs of a pixel: C_U in every row, and C_L and C_R where there is a row above.
  up_same : (i j : ℕ) → (forward (around false w h p i j)).up ≡ cost_up w p i j
  up_same i j = ap₂ difference (right_same i j) (left_same i j)

  above_same : (i j : ℕ) (x : List ℕ) → away x (around false w h p (suc i) j).up ≡ difference (pixel p (suc i - 1) j) x
  unfolding above_of
  above_same i j x = rw (lt-ltb 0 (suc i) (omega arith))

  left_cost_same : (i j : ℕ) → (forward (around false w h p (suc i) j)).left ≡ cost_left w p (suc i) j
  left_cost_same i j =
      ap₂ ◌+◌ (up_same (suc i) j) (above_same i j (left_or_it (around false w h p (suc i) j)) ∙ ap (difference (pixel p (suc i - 1) j)) (left_same (suc i) j))

  right_cost_same : (i j : ℕ) → (forward (around false w h p (suc i) j)).right ≡ cost_right w p (suc i) j
  right_cost_same i j =
      ap₂ ◌+◌ (up_same (suc i) j) (above_same i j (right_or_it (around false w h p (suc i) j)) ∙ ap (difference (pixel p (suc i - 1) j)) (right_same (suc i) j))

  step_same : (i above j : ℕ) → toward false w above j (forward (around false w h p (suc i) j)) ≡ step_cost w p (suc i) above j
  unfolding toward
  step_same i above j =
      rw (from_left w above j)
      (λ n. cond (eqb above j) (up_same (suc i) j n) (cond (eqb (above + 1) j) (left_cost_same i j n) (right_cost_same i j n)))

  -- So what a path costs by a method with the rule `forward` is its forward cost.
  module _ (how : Method) (e : how.energy ≡ Forward) where
    costs_same : (i j : ℕ) → costs_at how w h p i j ≡ forward (around false w h p i j)
    unfolding wrap_of costs_from costs_at
    costs_same i j = ap (λ r. costs_from r (around false w h p i j)) e

    pub forward_path_cost : (q : List ℕ) → path_cost how w h p q ≡ forward_cost w p q
    unfolding wrap_of cost forward_cost
    forward_path_cost [] = refl
    forward_path_cost (j ∷ []) = ap (λ (k : StepCosts). k.up) (costs_same 0 j) ∙ up_same 0 j
    forward_path_cost (j ∷ above ∷ q) =
        ap₂ ◌+◌ (forward_path_cost (above ∷ q))
        (ap (toward false w above j) (costs_same (suc (length q)) j) ∙ step_same (length q) above j)

-- The rule that a file with this word is judged by.
word_forward : (f : List ℕ) (p : Parts) → parse f ≡ some p → energy_word f ≡ rule_text Forward → p.head.method.energy ≡ Forward
unfolding energy_word
word_forward f p e word = reads_injective rule_reads tt p.head.method.energy Forward tt tt (rw e at word)

-- For each t from 1 to its depth the recorded seam t is connected, and no connected path through the picture then left has a lower
-- forward cost.
pub forward-cheapest : (f : List ℕ) → Accepted f → energy_word f ≡ rule_text Forward → (p : Parts) → parse f ≡ some p → (t : ℕ) → 1 ≤ t → t ≤ p.head.depth
    → LeastForward (p.head.size.width + 1 - t) p.head.size.height (before t p.rows p.maps) (reverse (recorded t p.maps))
unfolding wrap_of
forward-cheapest f a word p e t l m = record {
  path = seam.path;
  least = λ s path. rw (← same (reverse (recorded t p.maps)), ← same s) (seam.cheap s path);
}
  where
    seam : IsSeam p.head.method (p.head.size.width + 1 - t) p.head.size.height (before t p.rows p.maps) (reverse (recorded t p.maps))
    seam = (accepted-cheapest f p e (accepted_well_formed f a)).0 a t l m

    same : (q : List ℕ) → path_cost p.head.method (p.head.size.width + 1 - t) p.head.size.height (before t p.rows p.maps) q ≡ forward_cost (p.head.size.width + 1 - t) (before t p.rows p.maps) q
    same = forward_path_cost (p.head.size.width + 1 - t) p.head.size.height (before t p.rows p.maps) p.head.method (word_forward f p e word)
