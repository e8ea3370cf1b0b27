-- Which lists of columns are listed as paths, and in which order, whatever columns a path may come from.
use mathlib.Core.Path.{◌≡◌, refl, sym, ap, ◌∙◌}
use mathlib.Core.Logic.{inl, inr, ⊎_elim, ◌↔◌}
use mathlib.Core.List.Memᴰ
use mathlib.Core.List.{List, [], ◌∷◌, flat_map, Memᴰ}
use Prim.Native.Nat.{ℕ, zero, suc, ◌+◌, ◌<◌}
use native.Mathlib.Nat.{suc_inj, suc-ne-zero}
use native.Mathlib.Omega.{arith}
use lib.ListN.{length}
use Rattle.seam_theory.specs.Paths.{run, paths_up, paths, cost}
use Rattle.seam_theory.specs.Seams.{Before, Ascending}
use Rattle.seam_theory.proofs.Members.{of_run, in_run, of_flat_map, in_flat_map}
use Rattle.seam_theory.proofs.Ascending.{run_asc, asc_map, asc_flat_map}

-- A path from column c of row i begins with c and has i more.
pub record Starts (i c : ℕ) (p : List ℕ) : Type 0 where
  pub rest : List ℕ
  pub split : p ≡ c ∷ rest
  pub size : length rest ≡ i

-- One column more below such a path.
pub starts_more : (i a c : ℕ) (p : List ℕ) → Starts i a p → Starts (suc i) c (c ∷ p)
starts_more i a c p s = record { rest = p; split = refl; size = rw s.split (ap suc s.size) }

-- What it costs.
pub cost-more : (first : ℕ → ℕ) (step : ℕ → ℕ → ℕ → ℕ) (i a c : ℕ) (p : List ℕ) → Starts i a p → cost first step (c ∷ p) ≡ cost first step p + step (suc i) a c
unfolding cost
cost-more first step i a c p s = rw (s.split, s.size)

module _ (above : ℕ → List ℕ) where
  -- A path of row suc i is its column, and a path of row i from a column above.
  record More (i c : ℕ) (p : List ℕ) : Type 0 where
    column : ℕ
    rest : List ℕ
    split : c ∷ rest ≡ p
    from : Memᴰ column (above c)
    up : Memᴰ rest (paths_up above i column)

  more : (i c : ℕ) (p : List ℕ) → Memᴰ p (paths_up above (suc i) c) → More i c p
  unfolding paths_up
  more i c p m = go (Memᴰ.of_map (c ∷◌) _ m)
    where
      go : (q : List ℕ) × Memᴰ q (flat_map (paths_up above i) (above c)) × (c ∷ q ≡ p) → More i c p
      go t =
          let u = of_flat_map (paths_up above i) (above c) t.1 in
          record { column = u.0; rest = t.0; split = t.2; from = u.1; up = u.2 }

  -- The paths that are listed from column c of row i start there.
  pub starts : (i c : ℕ) (p : List ℕ) → Memᴰ p (paths_up above i c) → Starts i c p
  unfolding paths_up
  starts zero c p m = record { rest = []; split = Memᴰ.eq_of_singleton m; size = refl }
  starts (suc i) c p m =
      let u = more i c p m in
      rw (← u.split) (starts_more i u.column c u.rest (starts i u.column u.rest u.up))

  -- Each column but the last is reached from the next.
  abbrev pub Joined : List ℕ → Type 0
  Joined [] = ⊥
  Joined (c ∷ []) = Unit
  Joined (c ∷ a ∷ p) = Memᴰ a (above c) × Joined (a ∷ p)

  -- A path through w columns and h rows.
  pub record Connected (w h : ℕ) (p : List ℕ) : Type 0 where
    pub size : length p ≡ h
    pub within : (c : ℕ) → Memᴰ c p → c < w
    pub joined : Joined p

  of_paths_up : (i c : ℕ) (p : List ℕ) → Memᴰ p (paths_up above i c) → Joined p
  unfolding paths_up
  of_paths_up zero c p m = rw (Memᴰ.eq_of_singleton m) tt
  of_paths_up (suc i) c p m =
      let u = more i c p m in
      go u (starts i u.column u.rest u.up) (of_paths_up i u.column u.rest u.up)
    where
      go : (u : More i c p) → Starts i u.column u.rest → Joined u.rest → Joined p
      go u s j = rw (← u.split, s.split) (u.from, rw s.split at j)

  in_paths_up : (i c : ℕ) (p : List ℕ) → length p ≡ i → Joined (c ∷ p) → Memᴰ (c ∷ p) (paths_up above i c)
  unfolding paths_up
  in_paths_up zero c [] e j = Memᴰ.head refl
  in_paths_up zero c (a ∷ p) e j = absurd (suc-ne-zero (length p) e)
  in_paths_up (suc i) c [] e j = absurd (suc-ne-zero i (sym e))
  in_paths_up (suc i) c (a ∷ p) e j = Memᴰ.map (c ∷◌) (in_flat_map (paths_up above i) j.0 (in_paths_up i a p (suc_inj e) j.1))

  module _ (w : ℕ) (stay : (c a : ℕ) → c < w → Memᴰ a (above c) → a < w) where
    inside : (p : List ℕ) (c : ℕ) → c < w → Joined (c ∷ p) → (a : ℕ) → Memᴰ a (c ∷ p) → a < w
    inside [] c h j a m = rw (Memᴰ.eq_of_singleton m) h
    inside (b ∷ p) c h j a m = ⊎_elim (λ e. rw e h) (inside p b (stay c b h j.0) j.1 a) (Memᴰ.cases_cons m)

    -- The paths that are listed are the lists that are connected.
    pub paths-connected : (h : ℕ) (p : List ℕ) → Memᴰ p (paths above w h) ↔ Connected w h p
    unfolding paths
    paths-connected zero [] = (λ m. absurd (Memᴰ.not-nil m), λ k. absurd k.joined)
    paths-connected zero (c ∷ p) = (λ m. absurd (Memᴰ.not-nil m), λ k. absurd (suc-ne-zero (length p) k.size))
    paths-connected (suc i) [] = (λ m. absurd (none (of_flat_map (paths_up above i) (run 0 w) m)), λ k. absurd k.joined)
      where
        none : (c : ℕ) × Memᴰ c (run 0 w) × Memᴰ [] (paths_up above i c) → ⊥
        none t = let z : ◌≡◌ {A = ℕ} 0 1 = cc (starts i t.0 [] t.2).split in omega arith
    paths-connected (suc i) (c ∷ p) = (λ m. go (of_flat_map (paths_up above i) (run 0 w) m), back)
      where
        go : (b : ℕ) × Memᴰ b (run 0 w) × Memᴰ (c ∷ p) (paths_up above i b) → Connected w (suc i) (c ∷ p)
        go t =
            let s = starts i t.0 (c ∷ p) t.2 in
            let j : Joined (c ∷ p) = of_paths_up i t.0 (c ∷ p) t.2 in
            let e : c ≡ t.0 = cc s.split in
            let l : p ≡ s.rest = cc s.split in
            record {
              size = ap suc (ap length l ∙ s.size);
              within = inside p c (omega (arith, of_run 0 w t.0 t.1)) j;
              joined = j;
            }

        back : Connected w (suc i) (c ∷ p) → Memᴰ (c ∷ p) (flat_map (paths_up above i) (run 0 w))
        back k =
            in_flat_map (paths_up above i) (in_run 0 w c (omega arith) (omega (arith, k.within c (Memᴰ.head refl))))
            (in_paths_up i c p (suc_inj k.size) k.joined)

  module _ (up : (c : ℕ) → Ascending ◌<◌ (above c)) where
    apart : (i a b : ℕ) → a < b → (p q : List ℕ) → Memᴰ p (paths_up above i a) → Memᴰ q (paths_up above i b) → Before p q
    apart i a b h p q m n = rw ((starts i a p m).split, (starts i b q n).split) (inl h)

    pathsUp-asc : (i c : ℕ) → Ascending Before (paths_up above i c)
    unfolding paths_up
    pathsUp-asc zero c = (λ q m. absurd (Memᴰ.not-nil m), tt)
    pathsUp-asc (suc i) c =
        asc_map Before Before (c ∷◌) (λ p q h. inr (refl, h)) (flat_map (paths_up above i) (above c))
        (asc_flat_map ◌<◌ Before (paths_up above i) (apart i) (pathsUp-asc i) (above c) (up c))

    -- They are listed in dictionary order, each once.
    pub paths-asc : (w h : ℕ) → Ascending Before (paths above w h)
    unfolding paths
    paths-asc w zero = tt
    paths-asc w (suc i) = asc_flat_map ◌<◌ Before (paths_up above i) (apart i) (pathsUp-asc i) (run 0 w) (run_asc 0 w)
