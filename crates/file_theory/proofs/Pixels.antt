-- What is shown at any width has pixels of the picture's kind.
use mathlib.Core.Bool.{Bool, true, false, cond}
use mathlib.Core.List.{List, [], ◌∷◌, zip_with}
use Prim.Native.Nat.{ℕ, ◌-◌}
use lib.Dec.{leb}
use Rattle.seam_theory.specs.Paths.{cons_if}
use Rattle.map_theory.specs.Widths.{keep_row, stays, doubled, grow_last, grow_from, grow_row, row_at_width, shown}
use Rattle.text_theory.specs.Files.{All}

-- A property of all pixels that the mean keeps.
module _ {A : Type 0} (P : A → Type 0) where
  all_cons : (t : Bool) (x : A) (xs : List A) → P x → All P xs → All P (cons_if t x xs)
  all_cons true x xs p a = (p, a)
  all_cons false x xs p a = a

  all_keep : (f : ℕ → Bool) (xs : List A) (ys : List ℕ) → All P xs → All P (keep_row f xs ys)
  all_keep f [] ys a = tt
  all_keep f (x ∷ xs) [] a = tt
  all_keep f (x ∷ xs) (v ∷ ys) a = all_cons (f v) x (keep_row f xs ys) a.0 (all_keep f xs ys a.1)

  module _ (mean : A → A → A) (closed : (x y : A) → P x → P y → P (mean x y)) where
    all_last : (wrap new : Bool) (first l x : A) → P first → P l → P x → All P (grow_last mean wrap new first l x)
    all_last false new first l x f p q = all_cons new (mean x l) (x ∷ []) (closed x l q p) (q, tt)
    all_last true new first l x f p q = (q, all_cons new (mean x first) [] (closed x first q f) tt)

    module _ (wrap : Bool) where
      all_from : (u : ℕ) (first l : A) (xs : List A) (ys : List ℕ) → P first → P l → All P xs → All P (grow_from mean wrap u first l xs ys)
      all_from u first l [] ys f p a = tt
      all_from u first l (x ∷ xs) [] f p a = a
      all_from u first l (x ∷ []) (v ∷ ys) f p a = all_last wrap (doubled u v) first l x f p a.0
      all_from u first l (x ∷ r ∷ xs) (v ∷ ys) f p a =
          (a.0, all_cons (doubled u v) (mean x r) (grow_from mean wrap u first x (r ∷ xs) ys) (closed x r a.0 a.1.0) (all_from u first x (r ∷ xs) ys f a.0 a.1))

      all-grow : (u : ℕ) (xs : List A) (ys : List ℕ) → All P xs → All P (grow_row mean wrap u xs ys)
      all-grow u [] ys a = tt
      all-grow u (x ∷ xs) ys a = all_from u x x (x ∷ xs) ys a.0 a.0 a

      all_at : (m v : ℕ) (xs : List A) (ys : List ℕ) → All P xs → All P (row_at_width mean wrap m v xs ys)
      unfolding row_at_width
      all_at m v xs ys a = go (leb v m)
        where
          go : (t : Bool) → All P (cond t (keep_row (stays (m - v)) xs ys) (grow_row mean wrap (v - m) xs ys))
          go true = all_keep (stays (m - v)) xs ys a
          go false = all-grow (v - m) xs ys a

      pub all_shown : (m v : ℕ) (p : List (List A)) (q : List (List ℕ)) → All (All P) p → All (All P) (shown mean wrap m v p q)
      unfolding shown zip_with
      all_shown m v [] q a = tt
      all_shown m v (x ∷ p) [] a = tt
      all_shown m v (x ∷ p) (y ∷ q) a = (all_at m v x y a.0, all_shown m v p q a.1)
