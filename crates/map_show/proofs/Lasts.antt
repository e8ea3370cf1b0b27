-- The pixel of the last column and its new pixel, put one after the other.
use mathlib.Core.Path.{◌≡◌, sym, ap, ◌∙◌}
use mathlib.Core.Bool.{Bool, true, false}
use mathlib.Core.List.{List, [], ◌++◌, append-nil}
use Prim.Native.Nat.{ℕ, ◌+◌, ◌-◌, ◌*◌, ◌≤◌}
use native.Mathlib.Nat.{mul-le-mul_right}
use native.Mathlib.Omega.{arith}
use lib.ListN.{length, length-append}
use lib.Seq.{sets, length-sets}
use Rattle.grids.specs.Rows.{row_at}
use Rattle.map_theory.specs.Widths.{average}
use Rattle.map_show.specs.Inner.Rows.{last_pixels, LastNeeded}
use Rattle.map_show.specs.Inner.Pixels.{PixelNeeded, MeanNeeded}
use Rattle.map_show.proofs.Filling.{sets_append}
use Rattle.map_show.proofs.Places.{length_part}
use Rattle.map_show.proofs.Samples.{length-average}

-- A pixel p, and after it another, q: there is room for q, and both are put.
module _ (p q : List ℕ) {ch : ℕ} (p_long : length p ≡ ch) (q_long : length q ≡ ch) (out : List ℕ) (at : ℕ) {now : List ℕ} (first : now ≡ sets out at p) where
  second-room : at + length (p ++ (q ++ [])) ≤ length out → at + ch + ch ≤ length now
  second-room h =
      let same : length now ≡ length out = ap length first ∙ length-sets out at p in
      omega (arith, h, length-append p (q ++ []), length-append q [], p_long, q_long)

  both_put : {then : List ℕ} → then ≡ sets now (at + ch) q → then ≡ sets out at (p ++ (q ++ []))
  both_put second =
      let long : ch ≡ length p = sym p_long in
      second ∙ rw (first, long) (sets_append p q out at ∙ ap (λ r. sets out at (p ++ r)) (sym (append-nil q)))

module _ (ch : ℕ) (wrap : Bool) (samples : List ℕ) (c : ℕ) (new : Bool) (out : List ℕ) (at : ℕ) (needed : LastNeeded ch wrap samples c new out at) where
  abbrev pixel : ℕ → List ℕ
  pixel i = row_at ch i samples

  -- The pixel d that it is averaged with stands in the row, as do their samples.
  beside : (d : ℕ) → d ≤ c → d * ch + ch ≤ length samples
  beside d h = omega (arith, mul-le-mul_right ch h, needed.inside)

  length-pixel : length (pixel c) ≡ ch
  length-pixel = length_part ch samples c needed.inside

  length-new : (d : ℕ) → d ≤ c → length (average (pixel c) (pixel d)) ≡ ch
  length-new d h = length-average ch (pixel c) (pixel d) length-pixel (length_part ch samples d (beside d h))

  module _ (is : new ≡ true) where
    -- Joined to the first column: its new pixel after it.
    module _ (joined : wrap ≡ true) {now : List ℕ} (first : now ≡ sets out at (pixel c)) where
      pub new-needed : MeanNeeded ch samples c 0 now (at + ch)
      new-needed = record {
        inside = needed.inside;
        beside = beside 0 (omega arith);
        room = second-room (pixel c) (average (pixel c) (pixel 0)) length-pixel (length-new 0 (omega arith)) out at first (rw (joined, is) at needed.room);
      }

      pub new-put : {then : List ℕ} → then ≡ sets now (at + ch) (average (pixel c) (pixel 0)) → then ≡ sets out at (last_pixels ch wrap samples c new)
      new-put second = rw (joined, is) (both_put (pixel c) (average (pixel c) (pixel 0)) length-pixel (length-new 0 (omega arith)) out at first second)

    -- Else it stands after its new pixel.
    module _ (apart : wrap ≡ false) {left : ℕ} (left_is : left ≡ c - 1) {now : List ℕ} (first : now ≡ sets out at (average (pixel c) (pixel left))) where
      before : now ≡ sets out at (average (pixel c) (pixel (c - 1)))
      before = first ∙ ap (λ d. sets out at (average (pixel c) (pixel d))) left_is

      pub pixel-needed : PixelNeeded ch samples c now (at + ch)
      pixel-needed = record {
        inside = needed.inside;
        room = second-room (average (pixel c) (pixel (c - 1))) (pixel c) (length-new (c - 1) (omega arith)) length-pixel out at before (rw (apart, is) at needed.room);
      }

      pub pixel-put : {then : List ℕ} → then ≡ sets now (at + ch) (pixel c) → then ≡ sets out at (last_pixels ch wrap samples c new)
      pixel-put second = rw (apart, is) (both_put (average (pixel c) (pixel (c - 1))) (pixel c) (length-new (c - 1) (omega arith)) length-pixel out at before second)
