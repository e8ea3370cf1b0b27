-- Laws of the way back, in the terms of the loop that takes it.
use mathlib.Core.Path.{◌≡◌, refl, sym, ap, ◌∙◌}
use mathlib.Core.Bool.{true, cond, ◌&&◌}
use Prim.Native.Nat.{ℕ, zero, suc, ◌+◌, ◌-◌, ◌*◌, ◌≤◌, ◌<◌}
use mathlib.Core.List.{List, [], ◌∷◌, ◌++◌, append_assoc, append-nil}
use native.Mathlib.Omega.{arith}
use lib.ListN.{length, get_or, take, drop, set, length-append, length-set, take-append-drop, drop_of_length-le}
use lib.Dec.{leb, ltb, eqb}
use lib.Seq.{take-suc, set_at, drop_at, length-take-le}
use native.Mathlib.Numerals.{add-one}
use borrow.Author.Tests.{lt-ltb, le-leb, eq-eqb, leb-true, ltb-true, eqb-true}
use Rattle.pictures.specs.Pictures.{largest_side}
use Rattle.grids.proofs.Bools.{both}
use Rattle.seam_theory.specs.Sums.{came_from, columns_to}
use Rattle.seam_theory.proofs.Ways.{came_inside}
use Rattle.seam_find.specs.Tracing.{traceable, traced}

-- What it takes that there is a path to trace.
pub record Traceable (ways w height column seam : ℕ) : Type 0 where
  pub some : 0 < height
  pub short : height ≤ largest_side
  pub narrow : w ≤ largest_side
  pub inside : column < w
  pub room : height ≤ seam
  pub long : ways ≡ (height - 1) * w

module _ (ways w height column seam : ℕ) where
  pub traceable_is : Traceable ways w height column seam → traceable ways w height column seam ≡ true
  unfolding traceable
  traceable_is t = rw (
    le-leb 1 height t.some,
    le-leb height largest_side t.short,
    le-leb w largest_side t.narrow,
    lt-ltb column w t.inside,
    le-leb height seam t.room,
    eq-eqb ways ((height - 1) * w) t.long,
  )

  pub traceable_has : traceable ways w height column seam ≡ true → Traceable ways w height column seam
  unfolding traceable
  traceable_has e =
      let p = both (leb 1 height) (leb height largest_side && (leb w largest_side && (ltb column w && (leb height seam && eqb ways ((height - 1) * w))))) e in
      let q = both (leb height largest_side) (leb w largest_side && (ltb column w && (leb height seam && eqb ways ((height - 1) * w)))) p.1 in
      let r = both (leb w largest_side) (ltb column w && (leb height seam && eqb ways ((height - 1) * w))) q.1 in
      let s = both (ltb column w) (leb height seam && eqb ways ((height - 1) * w)) r.1 in
      let t = both (leb height seam) (eqb ways ((height - 1) * w)) s.1 in
      record {
        some = leb-true 1 height p.0;
        short = leb-true height largest_side q.0;
        narrow = leb-true w largest_side r.0;
        inside = ltb-true column w s.0;
        room = leb-true height seam t.0;
        long = eqb-true ways ((height - 1) * w) t.1;
      }

-- The path at the front of the seam's space, where there is one.
pub traced_is : (ways : List ℕ) (w height column : ℕ) (seam : List ℕ) → Traceable (length ways) w height column (length seam)
    → traced ways w height column seam ≡ columns_to ways w (height - 1) column ++ drop height seam
traced_is ways w height column seam t =
    ap (λ b. cond b (columns_to ways w (height - 1) column ++ drop height seam) seam) (traceable_is (length ways) w height column (length seam) t)

-- The way back, a row at a time from the last: `full` is the whole path, of which the columns of the rows below i stand in
-- the seam's space.
module _ (ways seam₀ full : List ℕ) (w h : ℕ) where
  pub length_columns : (i c : ℕ) → length (columns_to ways w i c) ≡ i + 1
  unfolding columns_to
  length_columns zero c = refl
  length_columns (suc i) c = omega (arith, length-append (columns_to ways w i (came_from w c (get_or ways (i * w + c) 0))) (c ∷ []), length_columns i (came_from w c (get_or ways (i * w + c) 0)))

  -- What holds before row i is stored.
  pub record Back (i c : ℕ) (seam : List ℕ) : Type 0 where
    pub row : i < h
    pub column : c < w
    pub long : length seam ≡ length seam₀
    pub path : full ≡ columns_to ways w i c ++ drop (i + 1) full
    pub stored : seam ≡ take (i + 1) seam₀ ++ (drop (i + 1) full ++ drop h seam₀)

  pub back_start : (i c : ℕ) → full ≡ columns_to ways w i c → i + 1 ≡ h → c < w → Back i c seam₀
  back_start i c e l inside =
      let none : drop (i + 1) full ≡ [] = drop_of_length-le full {i = i + 1} (omega (arith, ap length e, length_columns i c)) in
      record {
        row = omega arith;
        column = inside;
        long = refl;
        path = rw none (e ∙ sym (append-nil (columns_to ways w i c)));
        stored = rw (none, l) (sym (take-append-drop h seam₀));
      }

  -- One row more is stored, at i.
  stored_more : (i c : ℕ) (seam front : List ℕ) → i < length seam₀ → length front ≡ i → full ≡ (front ++ (c ∷ [])) ++ drop (i + 1) full
      → seam ≡ take (i + 1) seam₀ ++ (drop (i + 1) full ++ drop h seam₀) → set seam i c ≡ take i seam₀ ++ (drop i full ++ drop h seam₀)
  stored_more i c seam front l e p q =
      ap (λ s. set s i c) (q ∙ ap (◌++ rest) (ap (λ n. take n seam₀) (add-one i) ∙ take-suc seam₀ i 0 l) ∙ append_assoc (take i seam₀) (get_or seam₀ i 0 ∷ []) rest)
      ∙ set_at (take i seam₀) (get_or seam₀ i 0) rest c i (length-take-le i seam₀ (omega arith))
      ∙ ap (λ s. take i seam₀ ++ (s ++ drop h seam₀)) (sym here)
    where
      rest : List ℕ
      rest = drop (i + 1) full ++ drop h seam₀

      here : drop i full ≡ c ∷ drop (i + 1) full
      here = ap (drop i) (p ∙ append_assoc front (c ∷ []) (drop (i + 1) full)) ∙ drop_at front (c ∷ drop (i + 1) full) i e

  pub back_turn : (i c : ℕ) (seam : List ℕ) → 0 < i → i < length seam₀ → Back i c seam → Back (i - 1) (came_from w c (get_or ways ((i - 1) * w + c) 0)) (set seam i c)
  unfolding columns_to
  back_turn i c seam p l b = go (i - 1) (omega arith) b
    where
      go : (j : ℕ) → i ≡ suc j → Back i c seam → Back j (came_from w c (get_or ways (j * w + c) 0)) (set seam i c)
      go j e b =
          let front = columns_to ways w j (came_from w c (get_or ways (j * w + c) 0)) in
          let n : length front ≡ i = length_columns j (came_from w c (get_or ways (j * w + c) 0)) ∙ omega arith in
          let f : full ≡ (front ++ (c ∷ [])) ++ drop (i + 1) full = b.path ∙ ap (λ k. columns_to ways w k c ++ drop (i + 1) full) e in
          let g : drop i full ≡ c ∷ drop (i + 1) full = ap (drop i) (f ∙ append_assoc front (c ∷ []) (drop (i + 1) full)) ∙ drop_at front (c ∷ drop (i + 1) full) i n in
          let m : j + 1 ≡ i = omega arith in
          record {
            row = omega (arith, b.row);
            column = came_inside w c (get_or ways (j * w + c) 0) (omega (arith, b.column));
            long = length-set seam i c ∙ b.long;
            path = rw (m, g) (f ∙ append_assoc front (c ∷ []) (drop (i + 1) full));
            stored = rw m (stored_more i c seam front l n f b.stored);
          }

  pub back_end : (i c : ℕ) (seam : List ℕ) → i ≡ 0 → 0 < length seam₀ → length full ≡ h → Back i c seam → set seam 0 c ≡ full ++ drop h seam₀
  unfolding columns_to
  back_end i c seam z l n b =
      stored_more 0 c seam [] l refl (rw z at b.path) (rw z at b.stored)
