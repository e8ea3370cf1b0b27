-- Paths by weight, in any picture with marks: the first path of least weight is the seam, its cost is a remainder of its weight,
-- and where it weighs `protected` or more no seam is allowed.
use mathlib.Core.Path.{◌≡◌, refl, sym, ◌∙◌}
use mathlib.Core.Bool.{Bool, true, false, cond}
use mathlib.Core.Option.{none, some}
use mathlib.Core.List.{List, Memᴰ}
use Prim.Native.Nat.{ℕ, ◌+◌, ◌*◌, ◌%◌, ◌≤◌, ◌<◌}
use native.Mathlib.Omega.{arith}
use lib.Dec.{eqb}
use Rattle.pictures.specs.Limits.{most_side}
use Rattle.pictures.specs.Pictures.{Picture}
use Rattle.energy.specs.Around.{left_of}
use Rattle.energy.specs.declared.methods.Method.{Method}
use Rattle.energy.specs.Methods.{wrap_of}
use Rattle.energy.specs.Energy.{StepCosts, costs_at, energy, is_the, toward, step_of}
use Rattle.energy.proofs.Most.{CostsMost, toward-most}
use Rattle.seam_theory.specs.Best.{least}
use Rattle.seam_theory.specs.Paths.{paths, cost, nearby, along}
use Rattle.seam_theory.specs.PictureSeams.{path_cost, mark_at, is_mark, marked_up}
use Rattle.seam_theory.proofs.Along.{along_split, along-most}
use Rattle.seam_theory.proofs.Best.{best_mem}
use Rattle.seam_theory.proofs.Least.{by_cost, least-same}
use Rattle.seam_theory.proofs.Nearby.{nearby-paths}
use Rattle.seam_theory.proofs.Priced.{cost-weight, cost_most}
use Rattle.seam_theory.proofs.Weights.{weight, Weighed, weight-price, weights-found, weights_blocked}
use Rattle.seam_sums.specs.Weights.{weight_of, kept, protected}
use Rattle.seam_find_marked.specs.Inner.{byte_energy, most_weight, weighed, weights_at}

-- A weight is at most an energy, `kept` and `protected`.
pub weight-most : (e mark : ℕ) → e ≤ byte_energy → weight_of e mark ≤ most_weight
weight-most e mark l = go (eqb mark 2) (eqb mark 1)
  where
    go : (s t : Bool) → e + (cond s 0 1 * kept + cond t 1 0 * protected) ≤ most_weight
    go true true = omega arith
    go true false = omega arith
    go false true = omega arith
    go false false = omega arith

-- A step's weight is its cost and what the mark of the pixel adds.
toward-weighed : (wrap : Bool) (w a c : ℕ) (k : StepCosts) (mark : ℕ)
    → toward wrap w a c (weighed k mark) ≡ weight_of (toward wrap w a c k) mark
unfolding toward
toward-weighed wrap w a c k mark = go (eqb a c) (is_the (left_of wrap w c) a)
  where
    go : (same left : Bool)
        → cond same (weight_of k.up mark) (cond left (weight_of k.left mark) (weight_of k.right mark))
        ≡ weight_of (cond same k.up (cond left k.left k.right)) mark
    go true left = refl
    go false true = refl
    go false false = refl

-- The weight of a path's first pixel and of a step: the cost with the mark of the pixel that it comes to.
abbrev pub first_weight : Method → ℕ → ℕ → Picture → List (List ℕ) → ℕ → ℕ
first_weight how w h p m c = (weights_at how w h p m 0 c).up

abbrev pub step_weight : Method → ℕ → ℕ → Picture → List (List ℕ) → ℕ → ℕ → ℕ → ℕ
step_weight how w h p m i a c = toward (wrap_of how) w a c (weights_at how w h p m i c)

-- 1 where the pixel is not marked 2, else 0.
abbrev is_kept : List (List ℕ) → ℕ → ℕ → ℕ
is_kept m r c = cond (eqb (mark_at m r c) 2) 0 1

-- Each pixel is marked 2 or kept.
one_of_two : (m : List (List ℕ)) (r c : ℕ) → is_kept m r c + is_mark 2 m r c ≡ 1
one_of_two m r c = go (eqb (mark_at m r c) 2)
  where
    go : (t : Bool) → cond {A = ℕ} t 0 1 + cond t 1 0 ≡ 1
    go true = refl
    go false = refl

kept-most : (m : List (List ℕ)) (r c : ℕ) → is_kept m r c ≤ 1
kept-most m r c = omega (arith, one_of_two m r c)

-- In a picture with rows and costs within the bounds of the arithmetic.
module _ (how : Method) (w h : ℕ) (p : Picture) (m : List (List ℕ)) (few : h ≤ most_side)
    (most : (r c : ℕ) → CostsMost byte_energy (costs_at how w h p r c)) where
  abbrev all : List (List ℕ)
  all = paths (nearby (wrap_of how) w) w h

  abbrev price : List ℕ → ℕ
  price = path_cost how w h p

  -- How many pixels of a path are protected, to be removed, and kept.
  abbrev shielded : List ℕ → ℕ
  shielded = along (is_mark 1 m)

  abbrev removed : List ℕ → ℕ
  removed = along (is_mark 2 m)

  abbrev keeps : List ℕ → ℕ
  keeps = along (is_kept m)

  -- A path's weight.
  abbrev heavy : List ℕ → ℕ
  heavy = cost (first_weight how w h p m) (step_weight how w h p m)

  step-most : (i a c : ℕ) → step_of how w h p i a c ≤ byte_energy
  step-most i a c = toward-most byte_energy (wrap_of how) w a c (costs_at how w h p i c) (most i c)

  -- `kept` and `protected` are large enough.
  large : (q : List ℕ) → Memᴰ q all → Weighed keeps removed price kept protected h q
  large q i =
      let long = ((nearby-paths (wrap_of how) w h q).0 i).size in
      let cheap = cost_most (energy how w h p 0) (step_of how w h p) byte_energy (λ c. (most 0 c).up) step-most q in
      let few-kept = along-most (is_kept m) 1 q (kept-most m) in
      record {
        pixels = along_split (is_kept m) (is_mark 2 m) q (one_of_two m) ∙ long;
        below = omega arith;
        light = omega arith;
      }

  -- The weight is the cost, `kept` for each pixel that is kept and `protected` for each that is protected.
  summed : (q : List ℕ) → heavy q ≡ weight shielded keeps price kept protected q
  summed =
      cost-weight (energy how w h p 0) (step_of how w h p) (is_kept m) (is_mark 1 m) kept protected
      (first_weight how w h p m) (step_weight how w h p m)
      (λ c. refl) (λ i a c. toward-weighed (wrap_of how) w a c (costs_at how w h p i c) (mark_at m i c))

  -- The first path of least weight.
  module _ (s : List ℕ) (is : least heavy all ≡ some s) where
    lightest : least (weight shielded keeps price kept protected) all ≡ some s
    lightest = sym (least-same heavy (weight shielded keeps price kept protected) all (λ q i. summed q)) ∙ is

    -- Below `protected` it is the seam,
    pub light-found : heavy s < protected → marked_up how w h p m ≡ some s
    light-found l = weights-found shielded removed price keeps kept protected h all large s lightest (rw (summed s) at l)

    -- and its cost is a remainder of its weight.
    pub light-cost : heavy s < protected → price s ≡ heavy s % kept
    light-cost l =
        rw (summed s)
        (weight-price shielded removed price keeps kept protected h all large s (best_mem (by_cost heavy) all s is)
        (rw (summed s) at l))

    -- Else no seam is allowed.
    pub heavy-blocked : protected ≤ heavy s → marked_up how w h p m ≡ none
    heavy-blocked l = weights_blocked shielded removed price keeps kept protected h all large s lightest (rw (summed s) at l)
