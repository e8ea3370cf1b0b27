-- What the seam found is, said of lists of columns alone, without a list of all paths. A list of columns goes from the bottom
-- row upward.
use Rattle.std.specs.Prelude.{◌≡◌, ◌⊎◌, List, [], ◌∷◌, ℕ, ◌≤◌, length}
use Rattle.seam_theory.specs.Paths.{along}
use Rattle.seam_theory.specs.Connected.{IsPath}
use Rattle.seam_theory.specs.Seams.{Before}
use Rattle.pictures.specs.Pictures.{Picture}
use Rattle.energy.specs.declared.methods.Method.{Method}
use Rattle.energy.specs.Methods.{wrap_of}
use Rattle.seam_theory.specs.PictureSeams.{path_cost, mark_at, is_mark}

-- A connected path, none is cheaper, and each other that costs the same comes after it, read from the bottom row upward.
pub record IsSeam (how : Method) (w h : ℕ) (p : Picture) (s : List ℕ) : Type 0 where
  pub path : IsPath (wrap_of how) w h s
  pub cheap : (t : List ℕ) → IsPath (wrap_of how) w h t → path_cost how w h p s ≤ path_cost how w h p t
  pub early : (t : List ℕ) → IsPath (wrap_of how) w h t → path_cost how w h p t ≡ path_cost how w h p s → (t ≡ s) ⊎ Before s t

-- A path, from the bottom row upward, that touches a protected pixel.
abbrev pub Touches : List (List ℕ) → List ℕ → Type 0
Touches m [] = ⊥
Touches m (c ∷ q) = (mark_at m (length q) c ≡ 1) ⊎ Touches m q

-- A connected path that touches no protected pixel; none of these has more pixels marked 2; none of those with as many is
-- cheaper; and each other of those that costs the same comes after it.
pub record IsMarkedSeam (how : Method) (w h : ℕ) (p : Picture) (m : List (List ℕ)) (s : List ℕ) : Type 0 where
  pub path : IsPath (wrap_of how) w h s
  pub free : Touches m s → ⊥
  pub most : (t : List ℕ) → IsPath (wrap_of how) w h t → (Touches m t → ⊥) → along (is_mark 2 m) t ≤ along (is_mark 2 m) s
  pub cheap : (t : List ℕ) → IsPath (wrap_of how) w h t → (Touches m t → ⊥) → along (is_mark 2 m) t ≡ along (is_mark 2 m) s → path_cost how w h p s ≤ path_cost how w h p t
  pub early : (t : List ℕ) → IsPath (wrap_of how) w h t → (Touches m t → ⊥) → along (is_mark 2 m) t ≡ along (is_mark 2 m) s → path_cost how w h p t ≡ path_cost how w h p s → (t ≡ s) ⊎ Before s t
