-- A picture at widths over its own: its first u seams are doubled, and numbers above u make no difference.
use mathlib.Core.Path.{◌≡◌, refl, ap, ap₂, ◌∙◌}
use mathlib.Core.Bool.{Bool, false}
use mathlib.Core.List.{List, [], ◌∷◌, zip_with}
use Prim.Native.Nat.{ℕ, zero, suc, ◌+◌, ◌-◌, ◌≤◌, ◌<◌}
use native.Mathlib.Omega.{arith}
use Rattle.grids.specs.Each.{Grid, none, more}
use Rattle.seam_theory.specs.Paths.{cons_if}
use Rattle.seam_theory.specs.Choices.{Choice, Chooses}
use Rattle.map_theory.specs.Maps.{carve, map_of}
use Rattle.map_theory.specs.Widths.{doubled, grow_from, grow_row, shown}
use Rattle.map_theory.proofs.Numbers.{remains_zero, remains-le, doubled-not}
use Rattle.map_theory.proofs.Rows.{write}
use Rattle.map_theory.proofs.Levels.{Columns, write_all}
use Rattle.map_theory.proofs.Maps.{carve-grid, map-grid, map_next}
use Rattle.map_theory.proofs.Widths.{at_wide}

-- A pixel not taken isn't doubled, nor one that a later seam takes.
doubled_zero : (u : ℕ) → doubled u 0 ≡ false
doubled_zero u = rw (doubled-not u 0, remains_zero (suc u))

doubled-over : (u t : ℕ) → u ≤ t → doubled u (suc t) ≡ false
doubled-over u t h = rw (doubled-not u (suc t), remains-le (suc u) t (omega arith))

module _ {A : Type 0} (mean : A → A → A) (wrap : Bool) where
  -- A number above u written over a 0 changes nothing.
  from-write : (u t s : ℕ) (first l : A) (xs : List A) (ys : List ℕ) → u ≤ t → grow_from mean wrap u first l xs (write (suc t) s ys) ≡ grow_from mean wrap u first l xs ys
  from-write u t s first l [] ys h = refl
  from-write u t s first l (x ∷ xs) [] h = refl
  from-write u t s first l (x ∷ []) (suc a ∷ ys) h = refl
  from-write u t zero first l (x ∷ []) (zero ∷ ys) h = rw (doubled-over u t h, doubled_zero u)
  from-write u t (suc s) first l (x ∷ []) (zero ∷ ys) h = refl
  from-write u t s first l (x ∷ r ∷ xs) (suc a ∷ ys) h = ap (λ zs. x ∷ cons_if (doubled u (suc a)) (mean x r) zs) (from-write u t s first x (r ∷ xs) ys h)
  from-write u t zero first l (x ∷ r ∷ xs) (zero ∷ ys) h = rw (doubled-over u t h, doubled_zero u)
  from-write u t (suc s) first l (x ∷ r ∷ xs) (zero ∷ ys) h = ap (λ zs. x ∷ cons_if (doubled u 0) (mean x r) zs) (from-write u t s first x (r ∷ xs) ys h)

  grow_write : (u t s : ℕ) (xs : List A) (ys : List ℕ) → u ≤ t → grow_row mean wrap u xs (write (suc t) s ys) ≡ grow_row mean wrap u xs ys
  grow_write u t s [] ys h = refl
  grow_write u t s (x ∷ xs) ys h = from-write u t s x x (x ∷ xs) ys h

  rows_write : {w v h : ℕ} {s : List ℕ} {p : List (List A)} {q : List (List ℕ)} (u t : ℕ) → u ≤ t → Columns v h s → Grid w h p → Grid w h q
      → zip_with (grow_row mean wrap u) p (write_all (suc t) s q) ≡ zip_with (grow_row mean wrap u) p q
  unfolding write_all zip_with
  rows_write u t l none none none = refl
  rows_write u t l (more {x = c} i s) (more {x = x} e g) (more {x = y} f q) = ap₂ ◌∷◌ (grow_write u t c x y l) (rows_write u t l s g q)

  -- At a width v over its own a picture is shown with as many seams doubled as the widths differ by.
  pub shown_grow : (m v : ℕ) (p : List (List A)) (q : List (List ℕ)) → m < v → shown mean wrap m v p q ≡ zip_with (grow_row mean wrap (v - m)) p q
  unfolding shown zip_with
  shown_grow m v [] q l = refl
  shown_grow m v (x ∷ p) [] l = refl
  shown_grow m v (x ∷ p) (y ∷ q) l = ap₂ ◌∷◌ (at_wide mean wrap m v x y l) (shown_grow m v p q l)

  module _ (choose : Choice A) {near : ℕ → ℕ → ℕ → Bool} (good : Chooses near choose) where
    -- A map deeper than u doubles the same pixels as the map of depth u.
    deeper : (u d m h : ℕ) (p : List (List A)) → Grid m h p → u + d ≤ m
        → zip_with (grow_row mean wrap u) p (map_of choose (u + d) m h p) ≡ zip_with (grow_row mean wrap u) p (map_of choose u m h p)
    deeper u zero m h p g l = let z : u + 0 ≡ u = omega arith in rw z
    deeper u (suc d) m h p g l =
        let z : u + suc d ≡ suc (u + d) = omega arith in
        rw (z, map_next choose good (u + d) m h p g (omega arith))
        (rows_write u (u + d) (omega arith)
        (good.inside (m - (u + d)) h (carve choose (u + d) m h p) (omega arith) (carve-grid choose good (u + d) m h p g (omega arith)))
        g (map-grid choose good (u + d) m h p g (omega arith))
        ∙ deeper u d m h p g (omega arith))

    pub grow-map : (u k m h : ℕ) (p : List (List A)) → Grid m h p → u ≤ k → k ≤ m
        → zip_with (grow_row mean wrap u) p (map_of choose k m h p) ≡ zip_with (grow_row mean wrap u) p (map_of choose u m h p)
    grow-map u k m h p g a b =
        let z : u + (k - u) ≡ k = omega arith in
        rw z at (deeper u (k - u) m h p g (omega arith))

    -- Width m + u of the picture's own map shows the picture with its first u seams doubled.
    pub shown-grown : (u k m h : ℕ) (p : List (List A)) → Grid m h p → 1 ≤ u → u ≤ k → k ≤ m
        → shown mean wrap m (m + u) p (map_of choose k m h p) ≡ zip_with (grow_row mean wrap u) p (map_of choose u m h p)
    shown-grown u k m h p g l a b =
        let z : m + u - m ≡ u = omega arith in
        shown_grow m (m + u) p (map_of choose k m h p) (omega arith) ∙ rw z (grow-map u k m h p g a b)
