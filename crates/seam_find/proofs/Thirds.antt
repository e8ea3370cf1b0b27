-- Three rows of costs one after the other, at any width of number: what is read of them as numbers.
use mathlib.Core.Path.{◌≡◌, refl, sym, ap, ◌∙◌}
use mathlib.Core.List.{List, ◌++◌, map}
use Prim.Native.Nat.{ℕ, ◌<◌, min}
use lib.ListN.{length, get_or, take, drop}
use lib.Seq.{take_at, drop_at}
use Rattle.std.proofs.lemmas.List.{take-map, drop-map}
use Rattle.seam_theory.specs.Sums.{CostRows, left_sum, up_sum, right_sum, sum_of3}
use Rattle.seam_sums.proofs.Values.{value_at, values_part}
use Rattle.seam_find.specs.Costing.{thirds}

module _ {A : Type 0} (value : A → ℕ) (n : ℕ) (steps : List A) (c : ℕ) {part : List A} (x : A) where
  -- One of the first row, of the second and of the third.
  pub left_third : part ≡ take n steps → c < length part → x ≡ get_or part c x → get_or (thirds n (map value steps)).left c 0 ≡ value x
  left_third e h is =
      ap (λ r. get_or r c 0) (take-map value n steps ∙ ap (map value) (sym e))
      ∙ value_at value part c x h is

  pub up_third : {rest : List A} → rest ≡ drop n steps → part ≡ take n rest → c < length part → x ≡ get_or part c x → get_or (thirds n (map value steps)).up c 0 ≡ value x
  up_third d e h is =
      ap (λ r. get_or r c 0) (sym (values_part value n n steps) ∙ ap (map value) (sym (e ∙ ap (take n) d)))
      ∙ value_at value part c x h is

  pub right_third : {rest : List A} → rest ≡ drop n steps → part ≡ drop n rest → c < length part → x ≡ get_or part c x → get_or (thirds n (map value steps)).right c 0 ≡ value x
  right_third d e h is =
      ap (λ r. get_or r c 0) (ap (drop n) (drop-map value n steps) ∙ drop-map value n (drop n steps) ∙ ap (map value) (sym (e ∙ ap (drop n) d)))
      ∙ value_at value part c x h is

-- Three rows that fill them.
pub thirds_are : (n : ℕ) (left up right : List ℕ) → length left ≡ n → length up ≡ n
    → thirds n (left ++ (up ++ right)) ≡ record { left = left; up = up; right = right }
thirds_are n left up right e f =
    let rest = drop_at left (up ++ right) n e in
    λ i. record {
      left = take_at left (up ++ right) n e i;
      up = (ap (take n) rest ∙ take_at up right n f) i;
      right = (ap (drop n) rest ∙ drop_at up right n f) i;
    }

-- The sum of a column is the least of three.
pub three : (x : List ℕ) (k : CostRows) (c : ℕ) → sum_of3 x k c ≡ min (left_sum x k c) (min (up_sum x k c) (right_sum x k c))
unfolding sum_of3
three x k c = refl
