-- Rows of sums between their fences: how they are filled in and read.
use mathlib.Core.Path.{◌≡◌, refl, sym, ap, ap₂, ◌∙◌}
use mathlib.Core.Bool.{false}
use mathlib.Core.List.{List, [], ◌∷◌, ◌++◌, map}
use Prim.Native.Nat.{ℕ, zero, suc, ◌+◌, ◌-◌, ◌≤◌, ◌<◌, min}
use native.Mathlib.Nat.{add-sub_cancel, le_of_suc-le-suc}
use native.Mathlib.Numerals.{add-one}
use native.Mathlib.Omega.{arith}
use borrow.Rule.Slice.PartMut.{put_mid}
use lib.ListN.{length-map, length, get_or, take, drop, replicate, length-replicate}
use lib.Seq.{take_at}
use Rattle.grids.proofs.Parts.{put_part}
use Rattle.pictures.specs.declared.sizes.Size.{Size}
use Rattle.seam_theory.specs.Sums.{CostRows, fenced, sums_down, least_to}
use Rattle.seam_theory.proofs.Bounded.{length-sums}
use Rattle.seam_theory.proofs.Capped.{capped, capped_fenced}
use Rattle.seam_find.specs.Inner.Down.{DownGiven}
use Rattle.seam_find.specs.Inner.Bottom.{BottomGiven}
use Rattle.seam_sums.proofs.Values.{values_alike, values_part, value_at}
use Rattle.seam_sums.proofs.Turns.{least_inside}

take-replicate : {A : Type 0} (n m : ℕ) (a : A) → n ≤ m → take n (replicate m a) ≡ replicate n a
take-replicate zero m a h = refl
take-replicate (suc n) zero a h = absurd (omega arith)
take-replicate (suc n) (suc m) a h = ap (a ∷◌) (take-replicate n m a (le_of_suc-le-suc h))

pub length-take-replicate : {A : Type 0} (n m : ℕ) (a : A) → n ≤ m → length (take n (replicate m a)) ≡ n
length-take-replicate n m a h = ap length (take-replicate n m a h) ∙ length-replicate n a

-- A row of a local array that is all fence, as numbers.
pub fences_are : {A : Type 0} (value : A → ℕ) (x : A) (fence n m : ℕ) → value x ≡ fence → n ≤ m → map value (take n (replicate m x)) ≡ replicate n fence
fences_are value x fence n m e h = ap (map value) (take-replicate n m x h) ∙ values_alike value n x ∙ ap (replicate n) e

last_fence : (w fence : ℕ) → drop w (replicate (suc w) fence) ≡ fence ∷ []
last_fence zero fence = refl
last_fence (suc w) fence = last_fence w fence

-- A row put between two fences of a row that is all fence.
fence_in : (fence w : ℕ) (s : List ℕ) → take 1 (replicate (w + 2) fence) ++ (s ++ drop (w + 1) (replicate (w + 2) fence)) ≡ fenced false fence w s
fence_in fence w s =
    let two : w + 2 ≡ suc (suc w) = omega arith in
    rw (two, add-one w) (ap (λ r. fence ∷ (s ++ r)) (last_fence w fence))

-- The same of a row that was lent on.
pub first_row_is : (fence w : ℕ) (above row s : List ℕ) → above ≡ replicate (w + 2) fence → row ≡ s → put_mid 1 (w + 1 - 1) above row ≡ fenced false fence w s
first_row_is fence w above row s e f =
    put_part 1 (w + 1) above row (omega arith)
    ∙ ap₂ (λ x y. take 1 x ++ (y ++ drop (w + 1) x)) e f
    ∙ fence_in fence w s

-- The row between its fences.
between_fences : (fence w : ℕ) (s : List ℕ) → length s ≡ w → take (w + 1 - 1) (drop 1 (fenced false fence w s)) ≡ s
between_fences fence w s e = rw (add-sub_cancel w 1) (take_at s (fence ∷ []) w e)

-- The last row of sums, at any width of number, and the first of the least between its fences.
module _ {A : Type 0} (value : A → ℕ) {most fence from : ℕ} {z : Size} {costs : List ℕ → ℕ → CostRows} {space space' : List ℕ} (above : List A)
    (given : DownGiven most fence from z costs space space' (map value above)) (wide : length (costs (take from space) 0).up ≡ z.width) where
  abbrev real : List ℕ
  real = sums_down false fence z.width (costs (take from space)) (z.height - 1)

  abbrev sums : List ℕ
  sums = capped most (sums_down false fence z.width (costs (take from space)) (z.height - 1))

  abbrev row : List A
  row = take (z.width + 1 - 1) (drop 1 above)

  sums-long : length sums ≡ z.width
  sums-long = length-map real (min most) ∙ length-sums false fence z.width (costs (take from space)) wide (z.height - 1)

  last_row : map value row ≡ sums
  last_row =
      values_part value (z.width + 1 - 1) 1 above
      ∙ ap (λ x. take (z.width + 1 - 1) (drop 1 x)) (given.sums ∙ capped_fenced most fence z.width real)
      ∙ between_fences (min most fence) z.width sums sums-long

  row-long : length row ≡ z.width
  row-long = sym (length-map row value) ∙ ap length last_row ∙ sums-long

  -- The column that is given is one of the row's.
  pub column-inside : {column : ℕ} → 0 < z.width → column ≡ least_to (map value row) (length row - 1) → column < length row
  column-inside some is = omega (arith, row-long, is, least_inside (map value row) (length row - 1))

  pub bottom-given : {column : ℕ} {sum : A} → 0 < z.width → column ≡ least_to (map value row) (length row - 1) → sum ≡ get_or row column sum
      → BottomGiven most fence from z costs space space' column (value sum)
  bottom-given {column} {sum} some is read =
      let inside : column < length row = column-inside some is in
      record {
        ways = given.ways;
        column_is = is ∙ ap₂ (λ x n. least_to x (n - 1)) last_row row-long;
        inside = omega (arith, inside, row-long);
        sum_is = sym (value_at value row column sum inside read) ∙ ap (λ x. get_or x column 0) last_row;
      }
