-- Columns and paths with the join and without it, computed. Weights 1 2 2 / 2 2 1 / 2 2 1 have the least sum 3 where the last
-- column is joined to the first, and 4 where it isn't.
use mathlib.Core.Path.{◌≡◌, refl}
use mathlib.Core.Bool.{Bool, true, false}
use mathlib.Core.Option.{Option, some, map}
use mathlib.Core.List.{List, [], ◌∷◌, flat_map}
use Prim.Native.Nat.{ℕ}
use lib.ListN.{get_or}
use Rattle.seam_theory.specs.Best.{better, first_best}
use Rattle.seam_theory.specs.Paths.{run, select, paths_up, paths, cost, along, beside, joins, nearby}
use Rattle.seam_theory.specs.Seams.{cheapest}

abbrev weights : ℕ → ℕ → ℕ
weights r c = get_or (get_or ((1 ∷ 2 ∷ 2 ∷ []) ∷ (2 ∷ 2 ∷ 1 ∷ []) ∷ (2 ∷ 2 ∷ 1 ∷ []) ∷ []) r []) c 0

-- The path found, from the bottom row upward.
abbrev path : Bool → Option (List ℕ)
path wrap = cheapest (nearby wrap 3) (weights 0) (λ i a c. weights i c) 3 3

-- It steps across the join between the first row and the second,
pub joined-path : path true ≡ some (2 ∷ 2 ∷ 0 ∷ [])
unfolding paths paths_up cost nearby beside joins select run better first_best flat_map
joined-path = refl

pub joined-sum : map (along weights) (path true) ≡ some 3
unfolding paths paths_up cost nearby beside joins select run better first_best flat_map
joined-sum = refl

-- and goes the dearer way without it.
pub plain-path : path false ≡ some (2 ∷ 1 ∷ 0 ∷ [])
unfolding paths paths_up cost nearby beside select run better first_best flat_map
plain-path = refl

pub plain-sum : map (along weights) (path false) ≡ some 4
unfolding paths paths_up cost nearby beside select run better first_best flat_map
plain-sum = refl

-- Of two columns each is beside the other, and a single one is beside itself: the join adds nothing.
pub joined-two : (nearby true 2 0 ≡ 0 ∷ 1 ∷ []) × (nearby true 2 1 ≡ 0 ∷ 1 ∷ []) × (nearby true 1 0 ≡ 0 ∷ [])
unfolding nearby beside joins select run
joined-two = (refl, refl, refl)

-- Of five the ends are near each other, and the columns ascend.
pub joined_five : (nearby true 5 0 ≡ 0 ∷ 1 ∷ 4 ∷ []) × (nearby true 5 4 ≡ 0 ∷ 3 ∷ 4 ∷ []) × (nearby false 5 0 ≡ 0 ∷ 1 ∷ [])
unfolding nearby beside joins select run
joined_five = (refl, refl, refl)
