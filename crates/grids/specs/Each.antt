-- Lists of a known length whose elements all have a property: the shape of rows, grids and pictures.
use Rattle.std.specs.Prelude.{◌≡◌, List, [], ◌∷◌, ℕ, suc, length}

-- n elements, each with P.
pub data Each {A : Type 0} (P : A → Type 0) : ℕ → List A → Type 0 where
  none : Each P 0 []
  more : {n : ℕ} {x : A} {xs : List A} → P x → Each P n xs → Each P (suc n) (x ∷ xs)

-- A grid: n rows of w elements.
abbrev pub Grid : {A : Type 0} → ℕ → ℕ → List (List A) → Type 0
Grid w n p = Each (λ x. length x ≡ w) n p
