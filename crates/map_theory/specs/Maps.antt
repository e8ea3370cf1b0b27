-- "The map holds for each original pixel the number t (1 to k) of the seam that took it, or 0."
use mathlib.Core.List.{List, [], ◌∷◌, map, zip_with}
use Rattle.std.specs.Prelude.{ℕ, zero, suc, ◌-◌}
use Rattle.grids.specs.Cut.{cut}
use Rattle.seam_theory.specs.Choices.{Choice}

-- The list with a put in as its c-th element; past the end, at the end.
abbrev pub insert_at : {A : Type 0} → ℕ → A → List A → List A
insert_at zero a xs = a ∷ xs
insert_at (suc c) a [] = a ∷ []
insert_at (suc c) a (x ∷ xs) = x ∷ insert_at c a xs

-- The number of the same seam where one more is cut before it; 0 stays 0.
abbrev pub later : ℕ → ℕ
later zero = zero
later (suc t) = suc (suc t)

-- A row of the map where a seam through column c is cut first: 1 at the seam, each other number but 0 one more.
unfoldable pub number_row : ℕ → List ℕ → List ℕ
number_row c ys = insert_at c 1 (map later ys)

-- The map where the seam s is cut first.
unfoldable pub number : List ℕ → List (List ℕ) → List (List ℕ)
number s m = zip_with number_row s m

-- As many zeros.
abbrev pub zeros : {A : Type 0} → List (List A) → List (List ℕ)
zeros p = map (map (λ x. 0)) p

-- For any way of choosing a seam.
module _ {A : Type 0} (choose : Choice A) where
  -- The picture of width w and height h after t seams are cut, each chosen in the picture that is left.
  abbrev pub carve : ℕ → ℕ → ℕ → List (List A) → List (List A)
  carve zero w h p = p
  carve (suc t) w h p = carve t (w - 1) h (cut (choose w h p) p)

  -- Its map of depth k: the first seam has number 1, the others are numbered by the map of the picture that is left.
  abbrev pub map_of : ℕ → ℕ → ℕ → List (List A) → List (List ℕ)
  map_of zero w h p = zeros p
  map_of (suc k) w h p = number (choose w h p) (map_of k (w - 1) h (cut (choose w h p) p))
