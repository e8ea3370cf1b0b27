-- Points marked P that hold of more than the picture which the table takes: of any samples, either kind, any height.
use mathlib.Core.Path.{◌≡◌, refl, ap, ap₂, ◌∙◌}
use mathlib.Core.Logic.{◌⊎◌, inl, inr}
use mathlib.Core.Bool.{Bool, true}
use mathlib.Core.Option.{Option, none, some, map, get_or, or_else}
use mathlib.Core.List.{List, [], ◌∷◌, zip_with, flat_map, reverse}
use Prim.Native.Nat.{ℕ, zero, suc, ◌+◌, ◌<◌}
use native.Mathlib.Omega.{arith}
use lib.ListN.{length}
use Rattle.grids.specs.Cut.{remove_at, cut}
use Rattle.pictures.specs.declared.sizes.Kind.{Kind}
use Rattle.pictures.specs.declared.sizes.Kind.TheVariants.{Grey, Rgb}
use Rattle.pictures.specs.declared.sizes.Size.{Size}
use Rattle.pictures.specs.Refusals.{refusal}
use Rattle.pictures.specs.Pictures.{Picture, pixel_bytes, size_rules, row_in, picture, pixel}
use Rattle.energy.specs.declared.methods.EnergyRule.{EnergyRule}
use Rattle.energy.specs.declared.methods.EnergyRule.TheVariants.{Edge, Flat, Forward}
use Rattle.energy.specs.declared.methods.Method.{Method}
use Rattle.energy.specs.Methods.{wrap_of}
use Rattle.energy.specs.Around.{Around, left_of, right_of, above_of, below_of, around}
use Rattle.energy.specs.Energy.{difference, away, StepCosts, alike, left_or_it, right_or_it, across, costs_from, costs_at, energy, toward, step_of, energies}
use Rattle.energy.proofs.Energy.{difference_self}
use Rattle.energy.proofs.Steps.{toward-alike}
use Rattle.seam_theory.specs.Best.{better, first_best}
use Rattle.seam_theory.specs.Paths.{run, select, paths_up, paths, cost, beside, nearby}
use Rattle.seam_theory.specs.Seams.{cheapest}
use Rattle.seam_theory.specs.PictureSeams.{seam_of}
use Rattle.seam_rules.specs.declared.answers.Ending.TheVariants.{Spent}
use Rattle.seam_objects.specs.Objects.{MarkedPicture, to_remove, ends, removal}
use Rattle.map_theory.specs.Maps.{number_row, number, map_of}
use Rattle.map_theory.specs.Widths.{allowed}
use Rattle.text_theory.specs.Files.{All}
use Rattle.file_theory.specs.Contents.{parts_of, file_of}
use Rattle.file_theory.specs.Shows.{Accepted}
use Rattle.file_theory.proofs.Accepting.{accepted_built}
use Rattle.file_theory.proofs.Lent.{lent_allowed}

-- One pixel of either kind.
abbrev pub one : Kind → Size
one k = record { width = 1; height = 1; kind = k }

one-sized : (k : Kind) (n : ℕ) → n ≡ pixel_bytes k → refusal (size_rules (one k) n) ≡ 0
unfolding pixel_bytes
one-sized Grey n e = rw e
one-sized Rgb n e = rw e

-- "1 by 1: range 0 0 accepted", whatever bytes its samples are.
pub one-accepted : (how : Method) (k : Kind) (b : List ℕ) → length b ≡ pixel_bytes k → All (λ (a : ℕ). a < 256) b
    → Accepted (file_of (record { size = one k; method = how; depth = 0; growth = 0 }) (picture (one k) b))
unfolding allowed
one-accepted how k b long small =
    (accepted_built (file_of (record { size = one k; method = how; depth = 0; growth = 0 }) (picture (one k) b))).1
    (record {
      head = record { size = one k; method = how; depth = 0; growth = 0 };
      rows = picture (one k) b;
      picture = lent_allowed (one k) b small (one-sized k (length b) long);
      range = refl;
      is = refl;
    })

-- A pixel doesn't differ from one with no samples.
difference_empty : (px : List ℕ) → difference px [] ≡ 0
unfolding difference
difference_empty [] = refl
difference_empty (a ∷ px) = refl

-- A picture all of whose pixels are px. A place past its edge has none.
abbrev Plain : List ℕ → List ℕ → Type 0
Plain px x = (x ≡ px) ⊎ (x ≡ [])

abbrev Only : List ℕ → Picture → Type 0
Only px p = (r c : ℕ) → Plain px (pixel p r c)

module _ (px : List ℕ) where
  difference-none : (x y : List ℕ) → Plain px x → Plain px y → difference x y ≡ 0
  unfolding difference
  difference-none x y (inl e) (inl f) = rw (e, f) (difference_self px)
  difference-none x y (inl e) (inr f) = rw (e, f) (difference_empty px)
  difference-none x y (inr e) o = rw e

  -- A neighbour, where there is one.
  abbrev PlainNeighbour : Option (List ℕ) → Type 0
  PlainNeighbour none = Unit
  PlainNeighbour (some x) = Plain px x

  away-none : (x : List ℕ) (o : Option (List ℕ)) → Plain px x → PlainNeighbour o → away x o ≡ 0
  away-none x none a b = refl
  away-none x (some y) a b = difference-none y x b a

  plain_else : (o else : Option (List ℕ)) → PlainNeighbour o → PlainNeighbour else → PlainNeighbour (or_else o else)
  unfolding or_else
  plain_else none else a b = b
  plain_else (some x) else a b = a

  plain_or : (o : Option (List ℕ)) (x : List ℕ) → PlainNeighbour o → Plain px x → Plain px (get_or o x)
  plain_or none x a b = b
  plain_or (some y) x a b = a

  -- By each rule such a pixel costs nothing, wherever a path comes from.
  record PlainAround (a : Around) : Type 0 where
    it : Plain px a.it
    left : PlainNeighbour a.left
    right : PlainNeighbour a.right
    up : PlainNeighbour a.up
    down : PlainNeighbour a.down

  costs_none : (rule : EnergyRule) (a : Around) → PlainAround a → costs_from rule a ≡ alike 0
  unfolding costs_from
  costs_none Edge a n =
      let beside = away-none a.it (or_else a.right a.left) n.it (plain_else a.right a.left n.right n.left) in
      let below = away-none a.it (or_else a.down a.up) n.it (plain_else a.down a.up n.down n.up) in
      ap alike (omega (arith, beside, below))
  costs_none Flat a n = ap alike (omega (arith, away-none a.it a.right n.it n.right, away-none a.it a.down n.it n.down))
  costs_none Forward a n =
      let left = plain_or a.left a.it n.left n.it in
      let right = plain_or a.right a.it n.right n.it in
      let over = difference-none (right_or_it a) (left_or_it a) right left in
      let from-left : across a + away (left_or_it a) a.up ≡ 0 = omega (arith, over, away-none (left_or_it a) a.up left n.up) in
      let from-right : across a + away (right_or_it a) a.up ≡ 0 = omega (arith, over, away-none (right_or_it a) a.up right n.up) in
      λ i. record { left = from-left i; up = over i; right = from-right i }

module _ (px : List ℕ) (p : Picture) (only : Only px p) where
  -- The neighbour on a line of such pixels.
  neighbour_plain : (q : ℕ → List ℕ) → ((a : ℕ) → Plain px (q a)) → (o : Option ℕ) → PlainNeighbour px (map q o)
  neighbour_plain q each none = tt
  neighbour_plain q each (some a) = each a

  plain_around : (wrap : Bool) (w h r c : ℕ) → PlainAround px (around wrap w h p r c)
  plain_around wrap w h r c = record {
    it = only r c;
    left = neighbour_plain (pixel p r) (only r) (left_of wrap w c);
    right = neighbour_plain (pixel p r) (only r) (right_of wrap w c);
    up = neighbour_plain (λ a. pixel p a c) (λ a. only a c) (above_of r);
    down = neighbour_plain (λ a. pixel p a c) (λ a. only a c) (below_of h r);
  }

  pixel_none : (how : Method) (w h r c : ℕ) → costs_at how w h p r c ≡ alike 0
  unfolding costs_at
  pixel_none how w h r c = costs_none px how.energy (around (wrap_of how) w h p r c) (plain_around (wrap_of how) w h r c)

  -- Its energy is 0 everywhere, and so is the cost of a step.
  energy-none : (how : Method) (w h r c : ℕ) → energy how w h p r c ≡ 0
  energy-none how w h r c = ap (λ (k : StepCosts). k.up) (pixel_none how w h r c)

  step-none : (how : Method) (w h i a c : ℕ) → step_of how w h p i a c ≡ 0
  step-none how w h i a c = ap (toward (wrap_of how) w a c) (pixel_none how w h i c) ∙ toward-alike (wrap_of how) w a c 0

  -- So its seam is that of no energy at all.
  seam-none : (how : Method) (w h : ℕ) → seam_of how w h p ≡ reverse (get_or (cheapest (nearby (wrap_of how) w) (λ c. 0) (λ i a c. 0) w h) [])
  unfolding seam_of
  seam-none how w h =
      ap₂ (λ (first : ℕ → ℕ) (step : ℕ → ℕ → ℕ → ℕ). reverse (get_or (cheapest (nearby (wrap_of how) w) first step w h) []))
      (λ j c. energy-none how w h 0 c j) (λ j i a c. step-none how w h i a c j)

-- "1 by 1: energy 0", whatever its samples and the method are: there is no other pixel.
pub one-energy : (how : Method) (k : Kind) (b : List ℕ) → energies how 1 1 (picture (one k) b) 0 ≡ 0 ∷ []
unfolding picture row_in
one-energy how k b = ap (λ (e : ℕ). e ∷ []) (energy-none (pixel p 0 0) p only how 1 1 0 0)
  where
    p : Picture
    p = picture (one k) b

    only : Only (pixel p 0 0) p
    only zero zero = inl refl
    only zero (suc c) = inr refl
    only (suc r) c = inr refl

-- Two and three equal pixels, in one row.
module _ (how : Method) (px : List ℕ) where
  abbrev two : Picture
  two = (px ∷ px ∷ []) ∷ []

  abbrev three : Picture
  three = (px ∷ px ∷ px ∷ []) ∷ []

  only_two : Only px two
  only_two zero zero = inl refl
  only_two zero (suc zero) = inl refl
  only_two zero (suc (suc c)) = inr refl
  only_two (suc r) c = inr refl

  only-three : Only px three
  only-three zero zero = inl refl
  only-three zero (suc zero) = inl refl
  only-three zero (suc (suc zero)) = inl refl
  only-three zero (suc (suc (suc c))) = inr refl
  only-three (suc r) c = inr refl

  seam-two : seam_of how 2 1 two ≡ 0 ∷ []
  unfolding wrap_of paths paths_up cost nearby beside select run better first_best flat_map
  seam-two = seam-none px two only_two how 2 1

  seam-three : seam_of how 3 1 three ≡ 0 ∷ []
  unfolding wrap_of paths paths_up cost nearby beside select run better first_best flat_map
  seam-three = seam-none px three only-three how 3 1

  -- "all samples equal, 3 by 1: map 1 2 0 at depth 2", whatever the pixel is.
  pub equal_map : map_of (seam_of how) 2 3 1 three ≡ (1 ∷ 2 ∷ 0 ∷ []) ∷ []
  unfolding remove_at cut zip_with number_row number
  equal_map = rw (seam-three, seam-two)

  -- The same in the file of either kind and any growth.
  pub equal_file : (k : Kind) (g : ℕ)
      → (parts_of (record { size = record { width = 3; height = 1; kind = k }; method = how; depth = 2; growth = g }) three).maps ≡ (1 ∷ 2 ∷ 0 ∷ []) ∷ []
  equal_file k g = equal_map

-- "budget 0 with a mark 2 at width 2: spent, 0", whatever picture, height and marks are; nothing is cut.
pub spent_none : (s : MarkedPicture) → s.width ≡ 2 → to_remove s ≡ true → removal 0 0 s ≡ ends Spent 0 s
unfolding removal
spent_none s wide two = rw (two, wide)
