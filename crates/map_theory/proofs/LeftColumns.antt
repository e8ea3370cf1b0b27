-- The columns that no seam has taken: where the next number is written, and what is left of them then.
use mathlib.Core.Path.{◌≡◌, refl, sym, ap, ap₂, ◌∙◌}
use mathlib.Core.Bool.{Bool}
use mathlib.Core.List.{List, [], ◌∷◌, map, zip_with}
use Prim.Native.Nat.{ℕ, zero, suc, ◌-◌, ◌≤◌, ◌<◌}
use native.Mathlib.Omega.{arith}
use lib.ListN.{length, get_or, set, length-map}
use Rattle.grids.specs.Each.{Grid, none, more}
use Rattle.grids.specs.Table.{table}
use Rattle.grids.specs.Cut.{remove_at, cut}
use Rattle.grids.proofs.Shapes.{get_or-map}
use Rattle.grids.proofs.Filled.{map-table}
use Rattle.grids.proofs.Tables.{length-table, table-cons}
use Rattle.grids.proofs.Maps.{remove_at-map}
use Rattle.seam_theory.specs.Choices.{Choice, Chooses}
use Rattle.map_theory.specs.Maps.{zeros, carve, map_of}
use Rattle.map_theory.proofs.Rows.{write}
use Rattle.map_theory.proofs.Levels.{write_all, grid-cut}
use Rattle.map_theory.proofs.Maps.{carve-grid, map_next}

-- The columns of a map's row at which 0 stands, ascending.
abbrev pub left_columns : List ℕ → List ℕ
left_columns [] = []
left_columns (zero ∷ ys) = 0 ∷ map suc (left_columns ys)
left_columns (suc a ∷ ys) = map suc (left_columns ys)

-- The s-th 0 stands at the s-th of them.
pub write-left : (v s : ℕ) (ys : List ℕ) → s < length (left_columns ys) → write v s ys ≡ set ys (get_or (left_columns ys) s 0) v
write-left v s [] h = absurd (omega arith)
write-left v s (suc a ∷ ys) h =
    let l : s < length (left_columns ys) = rw (length-map (left_columns ys) suc) at h in
    ap (suc a ∷◌) (write-left v s ys l) ∙ sym (ap (λ k. set (suc a ∷ ys) k v) (get_or-map suc (left_columns ys) s 0 0 l))
write-left v zero (zero ∷ ys) h = refl
write-left v (suc s) (zero ∷ ys) h =
    let l : s < length (left_columns ys) = omega (arith, h, length-map (left_columns ys) suc) in
    ap (zero ∷◌) (write-left v s ys l) ∙ sym (ap (λ k. set (zero ∷ ys) k v) (get_or-map suc (left_columns ys) s 0 0 l))

-- Where a number is written, its column is left no more.
left-write : (v s : ℕ) (ys : List ℕ) → left_columns (write (suc v) s ys) ≡ remove_at s (left_columns ys)
unfolding remove_at
left-write v s [] = refl
left-write v s (suc a ∷ ys) = ap (map suc) (left-write v s ys) ∙ sym (remove_at-map suc s (left_columns ys))
left-write v zero (zero ∷ ys) = refl
left-write v (suc s) (zero ∷ ys) = ap (0 ∷◌) (ap (map suc) (left-write v s ys) ∙ sym (remove_at-map suc s (left_columns ys)))

-- Columns left are columns of the row.
pub left-inside : (ys : List ℕ) (s : ℕ) → s < length (left_columns ys) → get_or (left_columns ys) s 0 < length ys
left-inside [] s h = absurd (omega arith)
left-inside (suc a ∷ ys) s h =
    let l : s < length (left_columns ys) = rw (length-map (left_columns ys) suc) at h in
    rw (get_or-map suc (left_columns ys) s 0 0 l) (omega (arith, left-inside ys s l))
left-inside (zero ∷ ys) zero h = omega arith
left-inside (zero ∷ ys) (suc s) h =
    let l : s < length (left_columns ys) = omega (arith, h, length-map (left_columns ys) suc) in
    rw (get_or-map suc (left_columns ys) s 0 0 l) (omega (arith, left-inside ys s l))

-- Before the first seam all columns are left.
left-zeros : {A : Type 0} (xs : List A) → left_columns (map (λ x. 0) xs) ≡ table (λ c. c) (length xs)
left-zeros [] = refl
left-zeros (x ∷ xs) = ap (0 ∷◌) (ap (map suc) (left-zeros xs) ∙ map-table suc (λ c. c) (length xs)) ∙ sym (table-cons (λ c. c) (length xs))

-- Row by row.
abbrev pub all_left : List (List ℕ) → List (List ℕ)
all_left m = map left_columns m

pub left-write_all : (v : ℕ) (s : List ℕ) (m : List (List ℕ)) → all_left (write_all (suc v) s m) ≡ cut s (all_left m)
unfolding write_all cut zip_with
left-write_all v [] m = refl
left-write_all v (c ∷ s) [] = refl
left-write_all v (c ∷ s) (y ∷ m) = ap₂ ◌∷◌ (left-write v c y) (left-write_all v s m)

pub all-left_zeros : {A : Type 0} {w h : ℕ} {p : List (List A)} → Grid w h p → all_left (zeros p) ≡ table (λ r. table (λ c. c) w) h
all-left_zeros none = refl
all-left_zeros {w} (more {n = h} {x = x} {xs = p} e g) =
    ap₂ ◌∷◌ (left-zeros x ∙ ap (table (λ c. c)) e) (all-left_zeros g) ∙ sym (table-cons (λ r. table (λ c. c) w) h)

grid-left_zeros : {A : Type 0} {w h : ℕ} {p : List (List A)} → Grid w h p → Grid w h (all_left (zeros p))
grid-left_zeros none = none
grid-left_zeros (more {x = x} e g) = more (ap length (left-zeros x) ∙ length-table (λ c. c) (length x) ∙ e) (grid-left_zeros g)

module _ {A : Type 0} (choose : Choice A) {near : ℕ → ℕ → ℕ → Bool} (good : Chooses near choose) where
  -- The step: the columns left by the map one deeper are those of the map without the seam.
  pub left-next : (t w h : ℕ) (p : List (List A)) → Grid w h p → t < w
      → all_left (map_of choose (suc t) w h p) ≡ cut (choose (w - t) h (carve choose t w h p)) (all_left (map_of choose t w h p))
  left-next t w h p g l = ap all_left (map_next choose good t w h p g l) ∙ left-write_all t (choose (w - t) h (carve choose t w h p)) (map_of choose t w h p)

  pub left-grid : (t w h : ℕ) (p : List (List A)) → Grid w h p → t ≤ w → Grid (w - t) h (all_left (map_of choose t w h p))
  left-grid zero w h p g l = let z : w - 0 ≡ w = omega arith in rw z (grid-left_zeros g)
  left-grid (suc t) w h p g l =
      let z : w - suc t ≡ w - t - 1 = omega arith in
      rw (z, left-next t w h p g (omega arith))
      (grid-cut (good.inside (w - t) h (carve choose t w h p) (omega arith) (carve-grid choose good t w h p g (omega arith))) (left-grid t w h p g (omega arith)))
