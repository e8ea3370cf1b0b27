-- Paths whose columns are near each other from row to row, whether or not the last column is joined to the first.
use mathlib.Core.Path.{◌≡◌, refl}
use mathlib.Core.Logic.{◌⊎◌, inl, inr, ⊎_elim, ◌↔◌}
use mathlib.Core.Bool.{Bool, true, false, ◌&&◌}
use mathlib.Core.List.Memᴰ
use mathlib.Core.List.{List, [], ◌∷◌, Memᴰ}
use Prim.Native.Nat.{ℕ, zero, suc, ◌+◌, ◌≤◌, ◌<◌}
use native.Mathlib.Omega.{arith}
use lib.Dec.{leb, eqb}
use borrow.Author.Tests.{leb-true, le-leb, eqb-true, eq-eqb}
use Rattle.grids.proofs.Bools.{both, and_both, either, or_left, or_right}
use Rattle.seam_theory.specs.Paths.{run, paths_up, paths, beside, joins, near, nearby}
use Rattle.seam_theory.specs.Connected.{linked, IsPath}
use Rattle.seam_theory.specs.Seams.{Before, Ascending}
use Rattle.seam_theory.proofs.Members.{of_run, in_run, in_flat_map, of_select, in_select}
use Rattle.seam_theory.proofs.Ascending.{run_asc, asc_select}
use Rattle.seam_theory.proofs.Listed.{Joined, Connected, paths-connected, paths-asc}

-- Columns beside each other, as inequations.
pub beside_is : (c a : ℕ) → (beside c a ≡ true) ↔ ((a ≤ c + 1) × (c ≤ a + 1))
unfolding beside
beside_is c a = (
  λ e. let b = both (leb a (c + 1)) (leb c (a + 1)) e in (leb-true a (c + 1) b.0, leb-true c (a + 1) b.1),
  λ k. rw (le-leb a (c + 1) k.0, le-leb c (a + 1) k.1),
)

-- The first and the last column, as equations.
abbrev pub Joins : ℕ → ℕ → ℕ → Type 0
Joins w c a = ((c ≡ 0) × (a + 1 ≡ w)) ⊎ ((a ≡ 0) × (c + 1 ≡ w))

pub joins_is : (w c a : ℕ) → (joins w c a ≡ true) ↔ Joins w c a
unfolding joins
joins_is w c a = (
  λ e. ⊎_elim
      (λ d. let b = both (eqb c 0) (eqb (a + 1) w) d in inl (eqb-true c 0 b.0, eqb-true (a + 1) w b.1))
      (λ d. let b = both (eqb a 0) (eqb (c + 1) w) d in inr (eqb-true a 0 b.0, eqb-true (c + 1) w b.1))
      (either (eqb c 0 && eqb (a + 1) w) (eqb a 0 && eqb (c + 1) w) e),
  ⊎_elim
      (λ d. or_left (eqb c 0 && eqb (a + 1) w) (eqb a 0 && eqb (c + 1) w) (rw (eq-eqb c 0 d.0, eq-eqb (a + 1) w d.1)))
      (λ d. or_right (eqb c 0 && eqb (a + 1) w) (eqb a 0 && eqb (c + 1) w) (rw (eq-eqb a 0 d.0, eq-eqb (c + 1) w d.1))),
)

-- Without the join, near is beside.
pub near-plain : (w : ℕ) → near false w ≡ beside
near-plain w = refl

module _ (wrap : Bool) (w : ℕ) where
  -- Columns that are near each other.
  pub near_is : (c a : ℕ) → (near wrap w c a ≡ true) ↔ (((wrap ≡ true) × Joins w c a) ⊎ ((a ≤ c + 1) × (c ≤ a + 1)))
  near_is c a = (
    λ e. ⊎_elim
        (λ d. let b = both wrap (joins w c a) d in inl (b.0, (joins_is w c a).0 b.1))
        (λ d. inr ((beside_is c a).0 d))
        (either (wrap && joins w c a) (beside c a) e),
    ⊎_elim
        (λ d. or_left (wrap && joins w c a) (beside c a) (and_both wrap (joins w c a) d.0 ((joins_is w c a).1 d.1)))
        (λ d. or_right (wrap && joins w c a) (beside c a) ((beside_is c a).1 d)),
  )

  -- A step may go both ways.
  pub near-both : (c a : ℕ) → near wrap w c a ≡ true → near wrap w a c ≡ true
  near-both c a e = (near_is a c).1 (turned ((near_is c a).0 e))
    where
      turned : ((wrap ≡ true) × Joins w c a) ⊎ ((a ≤ c + 1) × (c ≤ a + 1)) → ((wrap ≡ true) × Joins w a c) ⊎ ((c ≤ a + 1) × (a ≤ c + 1))
      turned (inl (y, inl d)) = inl (y, inr d)
      turned (inl (y, inr d)) = inl (y, inl d)
      turned (inr d) = inr (d.1, d.0)

  -- The columns nearby.
  pub nearby-mem : (c a : ℕ) → Memᴰ a (nearby wrap w c) ↔ ((a < w) × (near wrap w c a ≡ true))
  unfolding nearby
  nearby-mem c a = (
    λ m. let r = of_select (near wrap w c) (run 0 w) a m in (omega (arith, of_run 0 w a r.0), r.1),
    λ k. in_select (near wrap w c) (run 0 w) a (in_run 0 w a (omega arith) (omega arith)) k.1,
  )

  -- A column is nearby itself.
  pub nearby_self : (c : ℕ) → c < w → Memᴰ c (nearby wrap w c)
  nearby_self c h = (nearby-mem c c).1 (h, (near_is c c).1 (inr (omega arith, omega arith)))

  -- They are columns of the grid.
  pub nearby_stay : (c a : ℕ) → c < w → Memᴰ a (nearby wrap w c) → a < w
  nearby_stay c a h m = ((nearby-mem c a).0 m).0

  -- They ascend.
  pub nearby_asc : (c : ℕ) → Ascending ◌<◌ (nearby wrap w c)
  unfolding nearby
  nearby_asc c = asc_select ◌<◌ (near wrap w c) (run 0 w) (run_asc 0 w)

  joined-linked : (p : List ℕ) → Joined (nearby wrap w) p → linked (near wrap w) p ≡ true
  joined-linked [] j = refl
  joined-linked (c ∷ []) j = refl
  joined-linked (c ∷ a ∷ p) j =
      and_both (near wrap w c a) (linked (near wrap w) (a ∷ p)) ((nearby-mem c a).0 j.0).1 (joined-linked (a ∷ p) j.1)

  linked-joined : (c : ℕ) (p : List ℕ) → ((a : ℕ) → Memᴰ a (c ∷ p) → a < w) → linked (near wrap w) (c ∷ p) ≡ true → Joined (nearby wrap w) (c ∷ p)
  linked-joined c [] u e = tt
  linked-joined c (a ∷ p) u e =
      let b = both (near wrap w c a) (linked (near wrap w) (a ∷ p)) e in (
        (nearby-mem c a).1 (u a (Memᴰ.tail (Memᴰ.head refl)), b.0),
        linked-joined a p (λ b m. u b (Memᴰ.tail m)) b.1,
      )

  -- The paths are the lists of h columns below w, neighbours near each other.
  pub nearby-paths : (h : ℕ) (p : List ℕ) → Memᴰ p (paths (nearby wrap w) w h) ↔ IsPath wrap w h p
  nearby-paths h [] = (λ m. absurd (all.0 m).joined, λ k. absurd (omega (arith, k.some, k.size)))
    where
      all : Memᴰ [] (paths (nearby wrap w) w h) ↔ Connected (nearby wrap w) w h []
      all = paths-connected (nearby wrap w) w nearby_stay h []
  nearby-paths h (c ∷ p) = (
    λ m. let k = all.0 m in record {
      some = omega (arith, k.size);
      size = k.size;
      within = k.within;
      connected = joined-linked (c ∷ p) k.joined;
    },
    λ k. all.1 (record { size = k.size; within = k.within; joined = linked-joined c p k.within k.connected }),
  )
    where
      all : Memᴰ (c ∷ p) (paths (nearby wrap w) w h) ↔ Connected (nearby wrap w) w h (c ∷ p)
      all = paths-connected (nearby wrap w) w nearby_stay h (c ∷ p)

  -- They are listed in dictionary order, each once.
  pub nearby-paths_asc : (h : ℕ) → Ascending Before (paths (nearby wrap w) w h)
  nearby-paths_asc h = paths-asc (nearby wrap w) nearby_asc w h

  straight : (i c : ℕ) → c < w → (p : List ℕ) × Memᴰ p (paths_up (nearby wrap w) i c)
  unfolding paths_up
  straight zero c h = (c ∷ [], Memᴰ.head refl)
  straight (suc i) c h =
      let t = straight i c h in
      (c ∷ t.0, Memᴰ.map (c ∷◌) (in_flat_map (paths_up (nearby wrap w) i) (nearby_self c h) t.1))

  -- There is a path, the straight one.
  pub some-path : (h : ℕ) → 0 < w → 0 < h → (p : List ℕ) × Memᴰ p (paths (nearby wrap w) w h)
  unfolding paths
  some-path zero k l = absurd (omega arith)
  some-path (suc i) k l =
      let t = straight i 0 k in
      (t.0, in_flat_map (paths_up (nearby wrap w) i) (in_run 0 w 0 (omega arith) (omega arith)) t.1)
