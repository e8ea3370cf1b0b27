-- Laws of the first elements of each row.
use mathlib.Core.Path.{◌≡◌, refl, sym, ap, ap₂, ◌∙◌}
use mathlib.Core.List.{List, [], ◌∷◌, map}
use Prim.Native.Nat.{ℕ, zero, suc, ◌≤◌, ◌<◌}
use native.Mathlib.Nat.{le_of_suc-le-suc}
use native.Mathlib.Omega.{arith}
use lib.ListN.{get_or, take}
use lib.Seq.{take_all, length-take-le, get_or-take}
use Rattle.std.proofs.lemmas.List.{take-map}
use Rattle.grids.specs.Each.{Each, Grid, none, more}
use Rattle.grids.specs.Table.{table}
use Rattle.grids.specs.Rows.{rows_of}
use Rattle.grids.specs.Cut.{cut}
use Rattle.grids.proofs.Maps.{cut-map}
use Rattle.grids.proofs.Filled.{map-table}
use Rattle.seam_planes.specs.Planes.{fronts}

module _ {A : Type 0} where
  -- The fronts of rows of which every element has a property, as of a picture's rows every pixel; and the fronts of a grid.
  take_each : {P : A → Type 0} {m : ℕ} {x : List A} (w : ℕ) → w ≤ m → Each P m x → Each P w (take w x)
  take_each zero l e = none
  take_each (suc w) l none = absurd (omega arith)
  take_each (suc w) l (more {n = n} p e) = more p (take_each {m = n} w (le_of_suc-le-suc l) e)

  pub fronts_each : {P : A → Type 0} {m n : ℕ} {p : List (List A)} (w : ℕ) → w ≤ m → Each (Each P m) n p → Each (Each P w) n (fronts w p)
  fronts_each w l none = none
  fronts_each w l (more e g) = more (take_each w l e) (fronts_each w l g)

  pub fronts_grid : {m n : ℕ} {p : List (List A)} (w : ℕ) → w ≤ m → Grid m n p → Grid w n (fronts w p)
  fronts_grid w l none = none
  fronts_grid w l (more {x = x} e g) = more (length-take-le w x (omega arith)) (fronts_grid w l g)

  -- Of a grid's rows the fronts that are as wide are all.
  pub fronts_all : {m n : ℕ} {p : List (List A)} → Grid m n p → fronts m p ≡ p
  fronts_all none = refl
  fronts_all {m} (more {x = x} e g) = ap₂ ◌∷◌ (take_all m x (omega arith)) (fronts_all g)

  -- The fronts have the elements of the rows.
  pub fronts_at : (w : ℕ) (p : List (List A)) (r c : ℕ) (d : A) → c < w → get_or (get_or (fronts w p) r []) c d ≡ get_or (get_or p r []) c d
  fronts_at w [] r c d l = refl
  fronts_at w (x ∷ p) zero c d l = get_or-take w x c d l
  fronts_at w (x ∷ p) (suc r) c d l = fronts_at w p r c d l

  pub fronts_table : (w : ℕ) (f : ℕ → List A) (n : ℕ) → fronts w (table f n) ≡ table (λ r. take w (f r)) n
  fronts_table w f n = map-table (take w) f n

  -- The first of the rows of a list are its first rows.
  pub take-rows : (n k m : ℕ) (b : List A) → k ≤ m → take k (rows_of n m b) ≡ rows_of n k b
  take-rows n zero m b l = refl
  take-rows n (suc k) zero b l = absurd (omega arith)
  take-rows n (suc k) (suc m) b l = ap (take n b ∷◌) (take-rows n k m _ (le_of_suc-le-suc l))

-- What is done to every element is done to those of the fronts.
module _ {A B : Type 0} (f : A → B) where
  pub fronts-map : (w : ℕ) (p : List (List A)) → fronts w (map (map f) p) ≡ map (map f) (fronts w p)
  fronts-map w [] = refl
  fronts-map w (x ∷ p) = ap₂ ◌∷◌ (take-map f w x) (fronts-map w p)

  -- So where q has the fronts of p without a seam, it has them of every element.
  pub fronts_cut : (v w : ℕ) (s : List ℕ) (p q : List (List A)) → fronts v q ≡ cut s (fronts w p) → fronts v (map (map f) q) ≡ cut s (fronts w (map (map f) p))
  fronts_cut v w s p q e = fronts-map v q ∙ ap (map (map f)) e ∙ sym (ap (cut s) (fronts-map w p) ∙ cut-map f s (fronts w p))
