-- A recorded map is accepted just where it is the map of the picture.
use mathlib.Core.Path.{◌≡◌, refl, sym, ap, ap₂, subst, ◌∙◌}
use mathlib.Core.Logic.{◌↔◌}
use mathlib.Core.Bool.{Bool, true, false, not}
use mathlib.Core.List.{List, [], ◌∷◌}
use Prim.Native.Nat.{ℕ, zero, suc, ◌+◌, ◌-◌, ◌≤◌, ◌<◌}
use native.Mathlib.Omega.{arith}
use Rattle.grids.specs.Each.{Each, Grid}
use Rattle.grids.specs.Cut.{cut}
use Rattle.pictures.specs.Refusals.{◌when◌, refusal}
use Rattle.seam_theory.specs.Connected.{linked}
use Rattle.seam_theory.specs.Choices.{Choice, Chooses}
use Rattle.map_theory.specs.Maps.{number, carve, map_of}
use Rattle.map_theory.specs.Judged.{every, same, numbers, before, recorded, connected, found, map_rules, Numbering, IsMap, lower}
use Rattle.map_theory.proofs.Tests.{every-each, each-every, every-run, same_is}
use Rattle.map_theory.proofs.Numberings.{numbers_is}
use Rattle.map_theory.proofs.Levels.{before-number, before-all, grid-cut, grid-lower, recorded-number, recorded_inside, numbered-none, numbered-lower, number-lower}
use Rattle.map_theory.proofs.Maps.{carve-grid, map-grid, map-numbered, before-map, recorded-map}

-- Three tests of which none fails.
three_pass : (a b c : Bool) → (refusal (9 when not a ∷ 10 when not b ∷ 11 when not c ∷ []) ≡ 0) ↔ ((a ≡ true) × (b ≡ true) × (c ≡ true))
three_pass a b c = (there a b c, λ k. rw (k.0, k.1, k.2))
  where
    there : (a b c : Bool) → refusal (9 when not a ∷ 10 when not b ∷ 11 when not c ∷ []) ≡ 0 → (a ≡ true) × (b ≡ true) × (c ≡ true)
    there true true true e = (refl, refl, refl)
    there true true false e = absurd (omega arith)
    there true false c e = absurd (omega arith)
    there false b c e = absurd (omega arith)

-- The test of 10, seam by seam,
pub connected_is : (near : ℕ → ℕ → ℕ → Bool) (w k : ℕ) (m : List (List ℕ))
    → (connected near w k m ≡ true) ↔ ((t : ℕ) → 1 ≤ t → t ≤ k → linked (near (w + 1 - t)) (recorded t m) ≡ true)
unfolding connected
connected_is near w k m = every-run (λ t. linked (near (w + 1 - t)) (recorded t m)) k

-- and that of 11.
pub found_is : {A : Type 0} (choose : Choice A) (w h k : ℕ) (p : List (List A)) (m : List (List ℕ))
    → (found choose w h k p m ≡ true) ↔ ((t : ℕ) → 1 ≤ t → t ≤ k → recorded t m ≡ choose (w + 1 - t) h (before t p m))
unfolding found
found_is choose w h k p m = (
  λ e t a b. (same_is (recorded t m) (choose (w + 1 - t) h (before t p m))).0 ((every-run f k).0 e t a b),
  λ c. (every-run f k).1 (λ t a b. (same_is (recorded t m) (choose (w + 1 - t) h (before t p m))).1 (c t a b)),
)
  where
    f : ℕ → Bool
    f t = same (recorded t m) (choose (w + 1 - t) h (before t p m))

module _ {A : Type 0} (near : ℕ → ℕ → ℕ → Bool) (choose : Choice A) (w h k : ℕ) (p : List (List A)) (m : List (List ℕ)) where
  -- Nothing is refused just where each row is a numbering and, for every t from 1 to k, the recorded seam t is connected and
  -- is the one chosen in the picture that the map leaves before it.
  pub judged_is : Grid w h m → (refusal (map_rules near choose w h k p m) ≡ 0) ↔ IsMap near choose w h k p m
  judged_is g = (
    λ e.
        let b = tests.0 e in
        record { numbered = every-each (numbers k) (λ y. (numbers_is k y).0) g b.0; joined = (connected_is near w k m).0 b.1; chosen = (found_is choose w h k p m).0 b.2 },
    λ r. tests.1 (each-every (numbers k) (λ y. (numbers_is k y).1) r.numbered, (connected_is near w k m).1 r.joined, (found_is choose w h k p m).1 r.chosen),
  )
    where
      tests : (refusal (map_rules near choose w h k p m) ≡ 0) ↔ ((every (numbers k) m ≡ true) × (connected near w k m ≡ true) × (found choose w h k p m ≡ true))
      tests = three_pass (every (numbers k) m) (connected near w k m) (found choose w h k p m)

module _ {A : Type 0} (choose : Choice A) {near : ℕ → ℕ → ℕ → Bool} (good : Chooses near choose) where
  -- The map of a picture is so,
  pub map_is : (w h k : ℕ) (p : List (List A)) → Grid w h p → k ≤ w → IsMap near choose w h k p (map_of choose k w h p)
  map_is w h k p g l = record { numbered = map-numbered choose good k w h p g l; joined = joined; chosen = chosen }
    where
      joined : (t : ℕ) → 1 ≤ t → t ≤ k → linked (near (w + 1 - t)) (recorded t (map_of choose k w h p)) ≡ true
      joined zero a b = absurd (omega arith)
      joined (suc t) a b =
          let z : w + 1 - suc t ≡ w - t = omega arith in
          rw (z, recorded-map choose good t k w h p g b l)
          (good.joined (w - t) h (carve choose t w h p) (omega arith) (carve-grid choose good t w h p g (omega arith)))

      chosen : (t : ℕ) → 1 ≤ t → t ≤ k → recorded t (map_of choose k w h p) ≡ choose (w + 1 - t) h (before t p (map_of choose k w h p))
      chosen zero a b = absurd (omega arith)
      chosen (suc t) a b =
          let z : w + 1 - suc t ≡ w - t = omega arith in
          rw (z, recorded-map choose good t k w h p g b l, before-map choose good t k w h p g (omega arith) l)

  -- and no other map is.
  chosen-map : (k w h : ℕ) (p : List (List A)) (m : List (List ℕ)) → Grid w h p → Grid w h m → k ≤ w → Each (Numbering k) h m
      → ((t : ℕ) → t < k → recorded (suc t) m ≡ choose (w - t) h (before (suc t) p m)) → m ≡ map_of choose k w h p
  chosen-map zero w h p m g q l u c = numbered-none g q u
  chosen-map (suc k) w h p m g q l u c =
      sym whole
      ∙ ap₂ number first (chosen-map k (w - 1) h (cut (choose w h p) p) (lower 1 m) (grid-cut (good.inside w h p (omega arith) g) g) low (omega arith) (numbered-lower u) next)
    where
      whole : number (recorded 1 m) (lower 1 m) ≡ m
      whole = number-lower u

      first : recorded 1 m ≡ choose w h p
      first =
          let z : w - 0 ≡ w = omega arith in
          (rw z at (c 0 (omega arith))) ∙ ap (choose w h) (before-all g q)

      low : Grid (w - 1) h (lower 1 m)
      low = grid-lower q u

      next : (t : ℕ) → t < k → recorded (suc t) (lower 1 m) ≡ choose (w - 1 - t) h (before (suc t) (cut (choose w h p) p) (lower 1 m))
      next t d =
          let z : w - suc t ≡ w - 1 - t = omega arith in
          sym (recorded-number t (recorded_inside q u) low) ∙ ap (recorded (suc (suc t))) whole ∙ (rw z at (c (suc t) (omega arith)))
          ∙ ap (choose (w - 1 - t) h)
          (ap (before (suc (suc t)) p) (sym whole) ∙ before-number t (recorded 1 m) p (lower 1 m) ∙ ap (λ s. before (suc t) (cut s p) (lower 1 m)) first)

  -- A numbered map is the picture's map where each recorded seam is the one chosen in the picture left before it.
  pub chosen-only : (w h k : ℕ) (p : List (List A)) (m : List (List ℕ)) → Grid w h p → Grid w h m → k ≤ w → Each (Numbering k) h m
      → ((t : ℕ) → 1 ≤ t → t ≤ k → recorded t m ≡ choose (w + 1 - t) h (before t p m)) → m ≡ map_of choose k w h p
  chosen-only w h k p m g q l u c =
      chosen-map k w h p m g q l u (λ t d. let z : w + 1 - suc t ≡ w - t = omega arith in rw z at (c (suc t) (omega arith) d))

  pub is_map : (w h k : ℕ) (p : List (List A)) (m : List (List ℕ)) → Grid w h p → Grid w h m → k ≤ w → IsMap near choose w h k p m → m ≡ map_of choose k w h p
  is_map w h k p m g q l r = chosen-only w h k p m g q l r.numbered r.chosen

  -- A recorded map is accepted exactly when it is the map of the picture.
  pub judged-map : (w h k : ℕ) (p : List (List A)) (m : List (List ℕ)) → Grid w h p → Grid w h m → k ≤ w
      → (refusal (map_rules near choose w h k p m) ≡ 0) ↔ (m ≡ map_of choose k w h p)
  judged-map w h k p m g q l = (
    λ e. is_map w h k p m g q l ((judged_is near choose w h k p m q).0 e),
    λ e. (judged_is near choose w h k p m q).1 (subst (IsMap near choose w h k p) (sym e) (map_is w h k p g l)),
  )

  -- Two maps accepted for the same picture and depth are equal.
  pub accepted-same : (w h k : ℕ) (p : List (List A)) (m n : List (List ℕ)) → Grid w h p → Grid w h m → Grid w h n → k ≤ w
      → refusal (map_rules near choose w h k p m) ≡ 0 → refusal (map_rules near choose w h k p n) ≡ 0 → m ≡ n
  accepted-same w h k p m n g q r l a b = (judged-map w h k p m g q l).0 a ∙ sym ((judged-map w h k p n g r l).0 b)

  -- Every picture has an accepted map at each depth below its width.
  pub accepted-some : (w h k : ℕ) (p : List (List A)) → Grid w h p → k < w → (m : List (List ℕ)) × Grid w h m × (refusal (map_rules near choose w h k p m) ≡ 0)
  accepted-some w h k p g l =
      let m : List (List ℕ) = map_of choose k w h p in
      let q : Grid w h m = map-grid choose good k w h p g (omega arith) in
      (m, q, (judged-map w h k p m g q (omega arith)).1 refl)
