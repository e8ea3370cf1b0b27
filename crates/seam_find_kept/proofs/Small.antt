-- Rows of sums between their fences: none is above a fence.
use mathlib.Core.Path.{◌≡◌, refl, sym, ap, ◌∙◌}
use mathlib.Core.Bool.{false}
use mathlib.Core.List.{List, [], ◌∷◌}
use Prim.Native.Nat.{ℕ, suc, ◌+◌, ◌≤◌, ◌<◌, min}
use native.Mathlib.Omega.{arith}
use native.Mathlib.Nat.{mul-le-mul_right, add_comm}
use lib.ListN.{length, get_or, take, drop, length-append, length-map}
use lib.Seq.{take_at, get_or-take, get_or-drop}
use Rattle.pictures.specs.Numbers.{largest_number}
use Rattle.pictures.specs.Limits.{most_side}
use Rattle.seam_theory.specs.Sums.{CostRows, fenced, sums_down}
use Rattle.seam_theory.proofs.Bounded.{fenced_at, length-sums, sums-most}
use Rattle.seam_sums.specs.Fences.{fence32}
use Rattle.seam_find.proofs.OneRow.{sums-within}
use Rattle.seam_theory.proofs.Capped.{capped_at}
use Rattle.seam_find_kept.specs.Inner.Down.{fenced_sums}
use Rattle.seam_theory.proofs.Kept.{kept_sums}
use Rattle.seam_find_kept.proofs.KeptRows.{Cheap}

-- A row that stands between fences does so by itself.
between-fences : (fence w : ℕ) (s x : List ℕ) → length s ≡ w → x ≡ fenced false fence w s → x ≡ fenced false fence w (take w (drop 1 x))
between-fences fence w s x long is =
    is ∙ ap (fenced false fence w) (sym (ap (λ y. take w (drop 1 y)) is ∙ take_at s (fence ∷ []) w long))

-- The part between the fences begins a place later.
pub inner_at : (w : ℕ) (x : List ℕ) (c : ℕ) → c < w → get_or (take w (drop 1 x)) c 0 ≡ get_or x (c + 1) 0
inner_at w x c h = get_or-take w (drop 1 x) c 0 h ∙ get_or-drop 1 x c 0 ∙ ap (λ n. get_or x n 0) (add_comm 1 c)

module _ (k : ℕ → CostRows) (w : ℕ) (cheap : Cheap k w) where
  pub sums-long : (i : ℕ) → length (sums_down false fence32 w k i) ≡ w
  sums-long = length-sums false fence32 w k cheap.wide

  module _ (i : ℕ) (few : i < most_side) where
    -- A sum and a further cost don't reach the fence.
    pub sums-low : (c : ℕ) → c < w → get_or (sums_down false fence32 w k i) c 0 + largest_number < fence32
    sums-low c h =
        let rows : suc i ≤ most_side = omega arith in
        omega (arith, sums-most false fence32 w k cheap.wide largest_number cheap.few i c h, mul-le-mul_right largest_number rows)

    -- No sum of the row is above a fence, nor is a fence.
    pub fenced-small : (c : ℕ) → get_or (fenced_sums k w i) c 0 ≤ fence32
    fenced-small =
        sums-within (between-fences fence32 w (sums_down false fence32 w k i) (fenced_sums k w i) (sums-long i) refl)
        (λ c h. omega (arith, fenced_at false fence32 w (sums_down false fence32 w k i) c (omega (arith, sums-long i)), sums-low c h))

    -- As it is kept neither.
    pub kept-small : (most c : ℕ) → get_or (kept_sums most fence32 w k i) c 0 ≤ fence32
    kept-small most c = omega (arith, capped_at most (fenced_sums k w i) c, fenced-small c)

  pub kept-long : (most i : ℕ) → length (kept_sums most fence32 w k i) ≡ w + 2
  kept-long most i =
      let s = sums_down false fence32 w k i in
      length-map (fenced_sums k w i) (min most) ∙ omega (arith, length-append s (fence32 ∷ []), sums-long i)
