-- The pixels of a row's bytes: where they stand, and how long they are.
use mathlib.Core.Path.{◌≡◌, refl}
use mathlib.Core.List.{List, [], ◌∷◌, ◌++◌}
use Prim.Native.Nat.{ℕ, ◌+◌, ◌*◌, ◌≤◌, ◌<◌}
use native.Mathlib.Omega.{arith}
use lib.ListN.{length, drop, get_or, get_or-append, length-drop}
use lib.Seq.{length-take-le, get_or_at}
use Rattle.grids.specs.Rows.{row_at}
use Rattle.grids.proofs.Rows.{part_end, length-rows_of, rows_of_at, length-row_at}
use Rattle.map_show.specs.Inner.Rows.{pixels_in}

-- A pixel that stands in a row has as many samples as there are channels.
pub length_part : (ch : ℕ) (samples : List ℕ) (c : ℕ) → c * ch + ch ≤ length samples → length (row_at ch c samples) ≡ ch
length_part ch samples c h = length-take-le ch (drop (c * ch) samples) (omega (arith, length-drop (c * ch) samples))

-- All numbers but the last, and the last.
module _ (ys front : List ℕ) (last : ℕ) (is : ys ≡ front ++ (last ∷ [])) where
  pub front_at : (c : ℕ) → c < length front → get_or ys c 0 ≡ get_or front c 0
  front_at c h = rw is (get_or-append front (last ∷ []) 0 c h)

  pub last_at : get_or ys (length front) 0 ≡ last
  last_at = rw is (get_or_at front last [] 0 (length front) refl)

module _ (ch : ℕ) (samples ys : List ℕ) (whole : length samples ≡ length ys * ch) (c : ℕ) (inside : c < length ys) where
  pub pixel_at : get_or (pixels_in ch samples ys) c [] ≡ row_at ch c samples
  pixel_at = rows_of_at ch (length ys) samples c inside

  pub below : c < length (pixels_in ch samples ys)
  below = rw (length-rows_of ch (length ys) samples) inside

  pub pixel-end : c * ch + ch ≤ length samples
  pixel-end = omega (arith, part_end c (length ys) ch inside)

  pub length-pixel : length (row_at ch c samples) ≡ ch
  length-pixel = length-row_at ch (length ys) samples c (omega arith) inside
