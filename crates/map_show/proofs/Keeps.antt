-- One turn of the loop that keeps a row: what stands in the space, and which bytes are still to come.
use mathlib.Core.Path.{◌≡◌, sym, ap, ◌∙◌}
use mathlib.Core.Bool.{true, false}
use mathlib.Core.List.{List, [], ◌++◌}
use Prim.Native.Nat.{ℕ, ◌+◌, ◌*◌, ◌≤◌, ◌<◌}
use native.Mathlib.Numerals.{add-one}
use lib.ListN.{length, get_or, drop, drop_of_length-le}
use lib.Seq.{drop-cons, sets}
use Rattle.grids.specs.Rows.{row_at, flat}
use Rattle.grids.proofs.Rows.{length-rows_of}
use Rattle.seam_theory.specs.Paths.{cons_if}
use Rattle.map_theory.specs.Widths.{stays, keep_row}
use Rattle.map_show.specs.Inner.Rows.{pixels_in, kept_pixels}
use Rattle.map_show.specs.Inner.Pixels.{PixelNeeded}
use Rattle.map_show.proofs.Filling.{Filling, fill_start, fill_as, fill-room, fill_more, fill_end}
use Rattle.map_show.proofs.Places.{pixel_at, below, pixel-end, length-pixel}

-- A row with t columns less goes into the space `before`; from pixel c on it is still to come.
abbrev pub Keeping : ℕ → List ℕ → List ℕ → ℕ → List ℕ → ℕ → List ℕ → ℕ → Type 0
Keeping ch samples ys t before c out at =
    Filling before (kept_pixels ch samples ys t) out at (flat (keep_row (stays t) (drop c (pixels_in ch samples ys)) (drop c ys)))

module _ (ch : ℕ) (samples ys : List ℕ) (whole : length samples ≡ length ys * ch) where
  abbrev pixel : ℕ → List ℕ
  pixel c = row_at ch c samples

  module _ (t : ℕ) (before : List ℕ) where
    pub keep-start : length (kept_pixels ch samples ys t) ≤ length before → Keeping ch samples ys t before 0 before 0
    unfolding kept_pixels
    keep-start h = fill_start h

    module _ (c : ℕ) (out : List ℕ) (at : ℕ) (inside : c < length ys) where
      keep-turn : keep_row (stays t) (drop c (pixels_in ch samples ys)) (drop c ys)
          ≡ cons_if (stays t (get_or ys c 0)) (pixel c) (keep_row (stays t) (drop (c + 1) (pixels_in ch samples ys)) (drop (c + 1) ys))
      keep-turn = rw (add-one c, drop-cons (pixels_in ch samples ys) c [] (below ch samples ys whole c inside), drop-cons ys c 0 inside, pixel_at ch samples ys whole c inside)

      pub keep-pass : stays t (get_or ys c 0) ≡ false → Keeping ch samples ys t before c out at → Keeping ch samples ys t before (c + 1) out at
      keep-pass s f = fill_as (ap flat (rw s at keep-turn)) f

      keep-next : stays t (get_or ys c 0) ≡ true → Keeping ch samples ys t before c out at
          → Filling before (kept_pixels ch samples ys t) out at (pixel c ++ flat (keep_row (stays t) (drop (c + 1) (pixels_in ch samples ys)) (drop (c + 1) ys)))
      keep-next s f = fill_as (ap flat (rw s at keep-turn)) f

      pub keep-needed : stays t (get_or ys c 0) ≡ true → Keeping ch samples ys t before c out at → PixelNeeded ch samples c out at
      keep-needed s f = record { inside = pixel-end ch samples ys whole c inside; room = fill-room (pixel c) _ (length-pixel ch samples ys whole c inside) (keep-next s f) }

      pub keep-put : {n : ℕ} → n ≡ ch → stays t (get_or ys c 0) ≡ true → Keeping ch samples ys t before c out at → Keeping ch samples ys t before (c + 1) (sets out at (pixel c)) (at + n)
      keep-put e s f = fill_more (pixel c) _ (length-pixel ch samples ys whole c inside ∙ sym e) (keep-next s f)

    pub keep-end : (c : ℕ) (out : List ℕ) (at : ℕ) → length ys ≤ c → Keeping ch samples ys t before c out at
        → out ≡ kept_pixels ch samples ys t ++ drop (length (kept_pixels ch samples ys t)) before
    keep-end c out at h f =
        let none : drop c (pixels_in ch samples ys) ≡ [] = drop_of_length-le (pixels_in ch samples ys) {i = c} (rw (length-rows_of ch (length ys) samples) h) in
        fill_end (fill_as (ap (λ xs. flat (keep_row (stays t) xs (drop c ys))) none) f)
