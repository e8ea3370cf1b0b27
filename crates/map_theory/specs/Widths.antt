-- "The map and the widths": which widths a map offers, and what it shows at them.
use Rattle.std.specs.Prelude.{◌≡◌, Bool, true, false, cond, ◌&&◌, ◌||◌, ℕ, ◌+◌, ◌-◌, ◌/◌, leb, ltb, eqb, length}
use mathlib.Core.List.{List, [], ◌∷◌, zip_with, Sublistᴰ}
use Rattle.seam_theory.specs.Paths.{cons_if}

-- "A file has depth k and growth g. Allowed: 0 ≤ k ≤ m−1, g ≤ k, g ≤ m/2 rounded down."
unfoldable pub allowed : ℕ → ℕ → ℕ → Bool
allowed m k g = ltb k m && (leb g k && leb g (m / 2))

-- "It offers the widths m−k to m+g and no others."
unfoldable pub offered : ℕ → ℕ → ℕ → ℕ → Bool
offered m k g v = leb (m - k) v && leb v (m + g)

-- "Width m−t, t from 0 to k: pixels whose number is 0 or greater than t."
unfoldable pub stays : ℕ → ℕ → Bool
stays t v = eqb v 0 || ltb t v

-- The elements of a row whose number passes a test.
abbrev pub keep_row : {A : Type 0} → (ℕ → Bool) → List A → List ℕ → List A
keep_row f [] ys = []
keep_row f (x ∷ xs) [] = []
keep_row f (x ∷ xs) (v ∷ ys) = cons_if (f v) x (keep_row f xs ys)

-- "Width m+u, u from 1 to g: all pixels, and one new pixel for each pixel numbered 1 to u."
unfoldable pub doubled : ℕ → ℕ → Bool
doubled u v = leb 1 v && leb v u

-- "(pixel + right neighbour)/2 rounded down"
unfoldable pub middle : ℕ → ℕ → ℕ
middle a b = (a + b) / 2

-- "per channel"
unfoldable pub average : List ℕ → List ℕ → List ℕ
average = zip_with middle

module _ {A : Type 0} (mean : A → A → A) where
  -- The pixel x of the last column, whose left neighbour is l, and its new pixel where it has one. "In the last column it stands
  -- directly to the left and uses the left neighbour; a new pixel of the column before stands ahead of it." Where that column is
  -- joined to the first, change 105: "The new pixel of the last column stands at its right and averages with column 0."
  abbrev pub grow_last : Bool → Bool → A → A → A → List A
  grow_last false new first l x = cons_if new (mean x l) (x ∷ [])
  grow_last true new first l x = x ∷ cons_if new (mean x first) []

  module _ (wrap : Bool) where
    -- "It stands directly to the right and is (pixel + right neighbour)/2 .., neighbours taken in the original." A row from some
    -- pixel on, whose left neighbour is l; the row's first pixel is `first`.
    abbrev pub grow_from : ℕ → A → A → List A → List ℕ → List A
    grow_from u first l [] ys = []
    grow_from u first l (x ∷ xs) [] = x ∷ xs
    grow_from u first l (x ∷ []) (v ∷ ys) = grow_last wrap (doubled u v) first l x
    grow_from u first l (x ∷ r ∷ xs) (v ∷ ys) = x ∷ cons_if (doubled u v) (mean x r) (grow_from u first x (r ∷ xs) ys)

    -- The first pixel has no left neighbour. It would be asked for in a row of one pixel, which has no growth.
    abbrev pub grow_row : ℕ → List A → List ℕ → List A
    grow_row u [] ys = []
    grow_row u (x ∷ xs) ys = grow_from u x x (x ∷ xs) ys

    -- A row of m pixels and its row of the map, at width v.
    unfoldable pub row_at_width : ℕ → ℕ → List A → List ℕ → List A
    row_at_width m v xs ys = cond (leb v m) (keep_row (stays (m - v)) xs ys) (grow_row (v - m) xs ys)

    -- What a picture of width m and its map show at width v.
    unfoldable pub shown : ℕ → ℕ → List (List A) → List (List ℕ) → List (List A)
    shown m v p q = zip_with (row_at_width m v) p q

-- "A point is a pixel, left out or kept with all its samples": xs is ys with n points left out, the others unchanged and in
-- their order.
pub record LeftOut {A : Type 0} (n : ℕ) (xs ys : List A) : Type 0 where
  pub order : Sublistᴰ xs ys
  pub size : length xs + n ≡ length ys
