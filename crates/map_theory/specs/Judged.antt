-- A recorded map judged: refusals 9 to 11.
use Rattle.std.specs.Prelude.{◌≡◌, Bool, true, false, cond, not, ◌&&◌, ◌||◌, ℕ, suc, ◌+◌, ◌-◌, ◌≤◌, ◌<◌, leb, eqb}
use mathlib.Core.List.{List, [], ◌∷◌, map, zip_with}
use Rattle.grids.specs.Each.{Each}
use Rattle.seam_theory.specs.Paths.{run}
use Rattle.pictures.specs.Refusals.{◌when◌, Rule}
use Rattle.seam_theory.specs.Connected.{linked}
use Rattle.seam_theory.specs.Choices.{Choice}
use Rattle.map_theory.specs.Widths.{keep_row, doubled}

-- Every element passes a test.
abbrev pub every : {A : Type 0} → (A → Bool) → List A → Bool
every f [] = true
every f (x ∷ xs) = f x && every f xs

-- Two lists of numbers are the same.
abbrev pub same : List ℕ → List ℕ → Bool
same [] [] = true
same [] (d ∷ t) = false
same (c ∷ s) [] = false
same (c ∷ s) (d ∷ t) = eqb c d && same s t

-- One more where the test passed.
abbrev pub tick : Bool → ℕ → ℕ
tick true n = suc n
tick false n = n

-- How often v stands in a row.
abbrev pub count : ℕ → List ℕ → ℕ
count v [] = 0
count v (a ∷ ys) = tick (eqb a v) (count v ys)

-- How many entries are numbered 1 to u.
abbrev pub doubled_in : ℕ → List ℕ → ℕ
doubled_in u [] = 0
doubled_in u (v ∷ ys) = tick (doubled u v) (doubled_in u ys)

-- 9: "a map row lacks one of 1 to k, repeats one, or holds more than k".
unfoldable pub numbers : ℕ → List ℕ → Bool
numbers k ys = every (λ t. eqb (count t ys) 1) (run 1 k) && every (λ v. leb v k) ys

-- A pixel numbered v is left before seam t: its number is 0 or at least t.
unfoldable pub remains : ℕ → ℕ → Bool
remains t v = eqb v 0 || leb t v

-- The picture that the map leaves before seam t.
unfoldable pub before : {A : Type 0} → ℕ → List (List A) → List (List ℕ) → List (List A)
before t p m = zip_with (keep_row (remains t)) p m

-- A row of the map after t seams: kept numbers fall by t, and 0 stays 0. And the map after t seams.
unfoldable pub lower_row : ℕ → List ℕ → List ℕ
lower_row t ys = map (λ v. v - t) (keep_row (remains (suc t)) ys ys)

abbrev pub lower : ℕ → List (List ℕ) → List (List ℕ)
lower t m = map (lower_row t) m

-- The column of number t in what is left of a row before seam t: how many pixels that are left stand ahead of it.
abbrev pub column_of : ℕ → List ℕ → ℕ
column_of t [] = 0
column_of t (v ∷ ys) = cond (eqb v t) 0 (tick (remains t v) (column_of t ys))

-- The recorded seam t, its columns from the top row.
abbrev pub recorded : ℕ → List (List ℕ) → List ℕ
recorded t m = map (column_of t) m

-- 10: "a recorded seam isn't connected in the picture left before it", whose width is w + 1 - t.
unfoldable pub connected : (ℕ → ℕ → ℕ → Bool) → ℕ → ℕ → List (List ℕ) → Bool
connected near w k m = every (λ t. linked (near (w + 1 - t)) (recorded t m)) (run 1 k)

-- 11: "a recorded seam isn't the one found" in the picture left before it.
unfoldable pub found : {A : Type 0} → Choice A → ℕ → ℕ → ℕ → List (List A) → List (List ℕ) → Bool
found choose w h k p m = every (λ t. same (recorded t m) (choose (w + 1 - t) h (before t p m))) (run 1 k)

-- What is refused of a recorded map of depth k, the picture having width w and height h.
abbrev pub map_rules : {A : Type 0} → (ℕ → ℕ → ℕ → Bool) → Choice A → ℕ → ℕ → ℕ → List (List A) → List (List ℕ) → List Rule
map_rules near choose w h k p m =
    9 when not (every (numbers k) m) ∷ 10 when not (connected near w k m) ∷ 11 when not (found choose w h k p m) ∷ []

-- A row that is a numbering: each of 1 to k stands in it once, and nothing above k.
pub record Numbering (k : ℕ) (ys : List ℕ) : Type 0 where
  pub once : (t : ℕ) → 1 ≤ t → t ≤ k → count t ys ≡ 1
  pub none_above : (t : ℕ) → k < t → count t ys ≡ 0

-- What a map is judged for, said of each seam: it is connected, and it is the one found in the picture left before it.
pub record IsMap {A : Type 0} (near : ℕ → ℕ → ℕ → Bool) (choose : Choice A) (w h k : ℕ) (p : List (List A)) (m : List (List ℕ)) : Type 0 where
  pub numbered : Each (Numbering k) h m
  pub joined : (t : ℕ) → 1 ≤ t → t ≤ k → linked (near (w + 1 - t)) (recorded t m) ≡ true
  pub chosen : (t : ℕ) → 1 ≤ t → t ≤ k → recorded t m ≡ choose (w + 1 - t) h (before t p m)
