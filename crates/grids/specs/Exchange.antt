-- Rows and columns exchanged.
use mathlib.Core.List.{List, [], ◌∷◌, zip_with}
use Rattle.std.specs.Prelude.{ℕ, replicate}

-- The grid whose rows are the columns of p, of which there are w.
unfoldable pub exchange : {A : Type 0} → ℕ → List (List A) → List (List A)
exchange w [] = replicate w []
exchange w (x ∷ p) = zip_with ◌∷◌ x (exchange w p)
