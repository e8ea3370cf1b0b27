-- Sums at any width of number: what is read of them as numbers, and where they are put.
use mathlib.Core.Path.{◌≡◌, refl, sym, ap, ap₂, ◌∙◌}
use mathlib.Core.List.{List, ◌∷◌, ◌++◌, map}
use Prim.Native.Nat.{ℕ, zero, suc, ◌<◌}
use borrow.Rule.Slice.PartMut.{put_mid}
use lib.ListN.{length, get_or, take, drop, replicate}
use Rattle.std.proofs.lemmas.List.{take-map, drop-map, map-append}
use Rattle.grids.proofs.Shapes.{get_or-map}

module _ {A : Type 0} (value : A → ℕ) where
  -- The one at k.
  pub value_at : (xs : List A) (k : ℕ) (x : A) → k < length xs → x ≡ get_or xs k x → get_or (map value xs) k 0 ≡ value x
  value_at xs k x h is = get_or-map value xs k x 0 h ∙ ap value (sym is)

  -- As many as one.
  pub values_alike : (n : ℕ) (x : A) → map value (replicate n x) ≡ replicate n (value x)
  values_alike zero x = refl
  values_alike (suc n) x = ap (value x ∷◌) (values_alike n x)

  -- A part, and a part put back.
  pub values_part : (n a : ℕ) (xs : List A) → map value (take n (drop a xs)) ≡ take n (drop a (map value xs))
  values_part n a xs = sym (take-map value n (drop a xs)) ∙ ap (take n) (sym (drop-map value a xs))

  pub values_put : (a k : ℕ) (xs ys : List A) → map value (put_mid a k xs ys) ≡ put_mid a k (map value xs) (map value ys)
  values_put a k xs ys =
      map-append value (take a xs) (ys ++ drop k (drop a xs))
      ∙ ap₂ ◌++◌ (sym (take-map value a xs))
      (map-append value ys (drop k (drop a xs)) ∙ ap (map value ys ++◌) (sym (drop-map value k (drop a xs)) ∙ ap (drop k) (sym (drop-map value a xs))))
