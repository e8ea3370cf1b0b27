-- The builder's step and the check by building anew, for maps that lie in one flat list.
use mathlib.Core.Path.{◌≡◌, refl, sym, ap, subst, ◌∙◌}
use mathlib.Core.Bool.{Bool, true, false, not}
use mathlib.Core.List.{List, [], ◌∷◌, ◌++◌}
use Prim.Native.Nat.{ℕ, suc, ◌-◌, ◌≤◌, ◌<◌}
use native.Mathlib.Omega.{arith}
use lib.ListN.{length, get_or}
use Rattle.grids.specs.Each.{Grid}
use Rattle.grids.specs.Rows.{rows_of, flat, row_at}
use Rattle.grids.proofs.Bools.{same_test}
use Rattle.grids.proofs.Shapes.{each-length, zip_with_at}
use Rattle.grids.proofs.Rows.{rows_of-flat, flat_at}
use Rattle.pictures.specs.Refusals.{◌when◌, refusal}
use Rattle.seam_theory.specs.Choices.{Choice, Chooses}
use Rattle.map_theory.specs.Maps.{carve, map_of}
use Rattle.map_theory.specs.Judged.{every, same, numbers, connected, found, map_rules, IsMap}
use Rattle.map_theory.proofs.Tests.{same_is, every-each}
use Rattle.map_theory.proofs.Numberings.{numbers_is}
use Rattle.map_theory.proofs.Rows.{write}
use Rattle.map_theory.proofs.Levels.{write_all}
use Rattle.map_theory.proofs.Maps.{carve-grid, map-grid, map_next}
use Rattle.map_theory.proofs.Judged.{found_is, map_is, chosen-only}

-- Grids whose flat lists are the same are the same.
pub flat-same : {A : Type 0} {w h : ℕ} {p q : List (List A)} → Grid w h p → Grid w h q → flat p ≡ flat q → p ≡ q
flat-same {A} {w} {h} {p} {q} g u e = sym (rows_of-flat [] g) ∙ ap (λ b. rows_of w h (b ++ [])) e ∙ rows_of-flat [] u

module _ {A : Type 0} (choose : Choice A) {near : ℕ → ℕ → ℕ → Bool} (good : Chooses near choose) where
  -- The step from depth t to depth t + 1.
  module _ (t w h : ℕ) (p : List (List A)) (g : Grid w h p) (deep : t < w) where
    -- The seam that is cut next, the map in one list, and the map one deeper.
    abbrev pub nextSeam : List ℕ
    nextSeam = choose (w - t) h (carve choose t w h p)

    abbrev pub oldMap : List ℕ
    oldMap = flat (map_of choose t w h p)

    abbrev pub newMap : List ℕ
    newMap = flat (map_of choose (suc t) w h p)

    -- Row r of the new map is that of the old one with t + 1 written over its s-th zero, s being the seam's column.
    pub build-row : (r : ℕ) → r < h → write (suc t) (get_or nextSeam r 0) (row_at w r oldMap) ≡ row_at w r newMap
    unfolding write_all
    build-row r l =
        let old : Grid w h (map_of choose t w h p) = map-grid choose good t w h p g (omega arith) in
        let columns : length nextSeam ≡ h = each-length (good.inside (w - t) h (carve choose t w h p) (omega arith) (carve-grid choose good t w h p g (omega arith))) in
        rw (flat_at old r l, flat_at (map-grid choose good (suc t) w h p g deep) r l, map_next choose good t w h p g deep)
        (sym (zip_with_at (write (suc t)) nextSeam (map_of choose t w h p) r 0 [] [] (omega arith) (omega (arith, each-length old))))

  -- A map is judged alike by 9, by 10, and by comparing it with the picture's map instead of judging each seam by 11.
  pub judged_rebuilt : (w h k : ℕ) (p : List (List A)) (m : List (List ℕ)) → Grid w h p → Grid w h m → k ≤ w
      → refusal (map_rules near choose w h k p m)
      ≡ refusal (9 when not (every (numbers k) m) ∷ 10 when not (connected near w k m) ∷ 11 when not (same (flat m) (flat (map_of choose k w h p))) ∷ [])
  judged_rebuilt w h k p m g q l = go (every (numbers k) m) (connected near w k m) refl
    where
      new : List (List ℕ)
      new = map_of choose k w h p

      agree : every (numbers k) m ≡ true → found choose w h k p m ≡ same (flat m) (flat new)
      agree n = same_test (found choose w h k p m) (same (flat m) (flat new)) there back
        where
          there : found choose w h k p m ≡ true → same (flat m) (flat new) ≡ true
          there e =
              (same_is (flat m) (flat new)).1
              (ap flat (chosen-only choose good w h k p m g q l (every-each (numbers k) (λ y. (numbers_is k y).0) q n) ((found_is choose w h k p m).0 e)))

          back : same (flat m) (flat new) ≡ true → found choose w h k p m ≡ true
          back e =
              let is : m ≡ new = flat-same q (map-grid choose good k w h p g l) ((same_is (flat m) (flat new)).0 e) in
              let r : IsMap near choose w h k p m = subst (IsMap near choose w h k p) (sym is) (map_is choose good w h k p g l) in
              (found_is choose w h k p m).1 r.chosen

      go : (a b : Bool) → every (numbers k) m ≡ a
          → refusal (9 when not a ∷ 10 when not b ∷ 11 when not (found choose w h k p m) ∷ []) ≡ refusal (9 when not a ∷ 10 when not b ∷ 11 when not (same (flat m) (flat new)) ∷ [])
      go false b e = refl
      go true false e = refl
      go true true e = ap (λ f. refusal (11 when not f ∷ [])) (agree e)
