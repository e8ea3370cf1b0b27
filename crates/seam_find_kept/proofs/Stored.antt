-- Rows of bytes stored one after the other: those before the one that is made, the last of them, and the one that is made.
use mathlib.Core.Path.{◌≡◌, refl, sym, ap, ap₂, ◌∙◌}
use mathlib.Core.Bool.{false}
use mathlib.Core.List.{List, [], ◌∷◌, ◌++◌}
use Prim.Native.Nat.{ℕ, suc, ◌+◌, ◌*◌, ◌≤◌, ◌<◌}
use native.Mathlib.Omega.{arith}
use native.Mathlib.Nat.{one-mul, two-mul, add-mul}
use lib.ListN.{length, get_or, set, take, drop, take-append-drop, length-drop}
use lib.Seq.{drop_at, take_all, length-take-le, take-append-add}
use Rattle.grids.specs.Rows.{row_at}
use Rattle.grids.proofs.Rows.{row_at-before, part_end}
use Rattle.seam_theory.specs.Sums.{fenced}
use Rattle.seam_find_kept.specs.Inner.Kept.{SumLaws}

-- The first i rows have the rows that they had.
pub row-front : (s i r : ℕ) (b : List ℕ) → i * s ≤ length b → r < i → row_at s r (take (i * s) b) ≡ row_at s r b
row-front s i r b room h =
    let long : r * s + s ≤ length (take (i * s) b) = omega (arith, length-take-le (i * s) b room, part_end r i s h) in
    sym (ap (row_at s r) (sym (take-append-drop (i * s) b)) ∙ row_at-before s r (take (i * s) b) (drop (i * s) b) long)

-- The last of them is what is left after those before it.
pub row-last : (s j : ℕ) (b : List ℕ) → length b ≡ j * s + s → drop (j * s) b ≡ row_at s j b
row-last s j b long = sym (take_all s (drop (j * s) b) (omega (arith, length-drop (j * s) b)))

-- A number put first.
pub put-first : (x y : List ℕ) (v : ℕ) → 0 < length x → y ≡ set x 0 v → get_or y 0 0 ≡ v
put-first [] y v some is = absurd (omega arith)
put-first (a ∷ x) y v some is = ap (λ l. get_or l 0 0) is

first-only : (x : List ℕ) → 0 < length x → take 1 x ≡ get_or x 0 0 ∷ []
first-only [] h = absurd (omega arith)
first-only (a ∷ r) h = refl

-- The row that is made, of two fences and of sums between them, in numbers of n bytes that `held` reads,
module _ {n most : ℕ} {held : List ℕ → List ℕ} (laws : SumLaws n most held) (fence w : ℕ) (left next right s : List ℕ)
    (left-long : length left ≡ n) (next-long : length next ≡ w * n) (right-room : n ≤ length right)
    (left-is : get_or (held left) 0 0 ≡ fence) (next-is : held next ≡ s) (right-is : get_or (held right) 0 0 ≡ fence) where
  one : length left ≡ 1 * n
  one = left-long ∙ sym (one-mul n)

  left-all : held left ≡ fence ∷ []
  left-all =
      sym (take_all 1 (held left) (omega (arith, laws.long 1 left one)))
      ∙ first-only (held left) (laws.one left (omega (arith, left-long)))
      ∙ ap (◌∷ []) left-is

  right-first : take 1 (held right) ≡ fence ∷ []
  right-first = first-only (held right) (laws.one right right-room) ∙ ap (◌∷ []) right-is

  whole : held (left ++ (next ++ right)) ≡ fence ∷ (s ++ held right)
  whole =
      laws.joined 1 left (next ++ right) one
      ∙ ap₂ ◌++◌ left-all (laws.joined w next right next-long ∙ ap (◌++ held right) next-is)

  sums-long : length s ≡ w
  sums-long = omega (arith, ap length next-is, laws.long w next next-long)

  front : (t : List ℕ) → take (w + 2) (fence ∷ (s ++ t)) ≡ fence ∷ (s ++ take 1 t)
  front t =
      let two : w + 2 ≡ suc (w + 1) = omega arith in
      rw two (ap (fence ∷◌) (ap (λ m. take (m + 1) (s ++ t)) (sym sums-long) ∙ take-append-add s t 1))

  pub row-made : held (take ((w + 2) * n) (left ++ (next ++ right))) ≡ fenced false fence w s
  row-made =
      laws.front (w + 2) (left ++ (next ++ right))
      ∙ ap (take (w + 2)) whole
      ∙ front (held right)
      ∙ ap (λ t. fence ∷ (s ++ t)) right-first

-- and what follows the rows above it.
pub row-after : (s i : ℕ) (above rest : List ℕ) → length above ≡ i * s → row_at s i (above ++ rest) ≡ take s rest
row-after s i above rest long = ap (take s) (drop_at above rest (i * s) long)

-- A row has its sums and two fences.
pub stride-parts : (w n : ℕ) → (w + 2) * n ≡ w * n + (n + n)
stride-parts w n = add-mul w 2 n ∙ ap (w * n +◌) (two-mul n)
