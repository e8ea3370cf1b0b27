-- One turn of the loop that grows a row: what stands in the space, and which bytes are still to come.
use mathlib.Core.Path.{◌≡◌, refl, sym, ap, ◌∙◌}
use mathlib.Core.Bool.{Bool, true, false}
use mathlib.Core.List.{List, [], ◌∷◌, ◌++◌, append-nil}
use Prim.Native.Nat.{ℕ, suc, ◌+◌, ◌-◌, ◌<◌}
use native.Mathlib.Numerals.{add-one}
use native.Mathlib.Omega.{arith}
use lib.ListN.{length, get_or, drop, drop_of_length-le}
use lib.Seq.{drop-cons, sets}
use Rattle.grids.specs.Rows.{row_at, flat}
use Rattle.grids.proofs.Rows.{length-rows_of}
use Rattle.seam_theory.specs.Paths.{cons_if}
use Rattle.map_theory.specs.Widths.{doubled, grow_last, grow_from, grow_row, average}
use Rattle.map_show.specs.Inner.Rows.{pixels_in, grown, last_pixels, RowNeeded, LastNeeded}
use Rattle.map_show.specs.Inner.Pixels.{PixelNeeded, MeanNeeded}
use Rattle.map_show.proofs.Filling.{Filling, fill_start, fill_as, fill-room, fill_more, fill_end}
use Rattle.map_show.proofs.Samples.{length-average}
use Rattle.map_show.proofs.Places.{front_at, last_at, pixel_at, below, pixel-end, length-pixel}

-- A row with u columns more: from pixel c on it is still to come.
abbrev pub Growing : ℕ → Bool → List ℕ → List ℕ → ℕ → List ℕ → ℕ → List ℕ → ℕ → Type 0
Growing ch wrap samples ys u before c out at =
    Filling before (grown ch wrap samples ys u) out at
    (flat (grow_from average wrap u (row_at ch 0 samples) (row_at ch (c - 1) samples) (drop c (pixels_in ch samples ys)) (drop c ys)))

-- One pixel more, which isn't the last.
grow_step : (wrap : Bool) (u : ℕ) (first l x r : List ℕ) (xs : List (List ℕ)) (v : ℕ) (vs : List ℕ) {zs rs : List (List ℕ)} {ws : List ℕ}
    → zs ≡ x ∷ r ∷ xs → rs ≡ r ∷ xs → ws ≡ v ∷ vs
    → grow_from average wrap u first l zs ws ≡ x ∷ cons_if (doubled u v) (average x r) (grow_from average wrap u first x rs vs)
grow_step wrap u first l x r xs v vs e f g = rw (e, f, g)

-- In a space that has room. The names below speak of the row's numbers as all but the last, `some`, and the last.
module _ {ch : ℕ} {samples ys before : List ℕ} (wrap : Bool) (u : ℕ) (needed : RowNeeded ch samples ys (grown ch wrap samples ys u) before) where
  abbrev pixel : ℕ → List ℕ
  pixel c = row_at ch c samples

  abbrev pixels : List (List ℕ)
  pixels = pixels_in ch samples ys

  front : (i : ℕ) → i < length ys → drop i pixels ≡ pixel i ∷ drop (suc i) pixels
  front i h = drop-cons pixels i [] (below ch samples ys needed.whole i h) ∙ ap (◌∷ drop (suc i) pixels) (pixel_at ch samples ys needed.whole i h)

  -- A row of no pixels.
  pub grow_none : length ys ≡ 0 → before ≡ grown ch wrap samples ys u ++ drop (length (grown ch wrap samples ys u)) before
  unfolding grown
  grow_none e = rw e

  pub grow-start : 0 < length ys → Growing ch wrap samples ys u before 0 before 0
  unfolding grown
  grow-start h =
      let z : 0 - 1 ≡ 0 = omega arith in
      let first : (xs : List (List ℕ)) → 0 < length xs → grow_row average wrap u xs ys ≡ grow_from average wrap u (get_or xs 0 []) (get_or xs 0 []) xs ys = started in
      rw z (fill_as (ap flat (first pixels (below ch samples ys needed.whole 0 h) ∙ ap (λ l. grow_from average wrap u l l pixels ys) (pixel_at ch samples ys needed.whole 0 h))) (fill_start needed.room))
    where
      started : (xs : List (List ℕ)) → 0 < length xs → grow_row average wrap u xs ys ≡ grow_from average wrap u (get_or xs 0 []) (get_or xs 0 []) xs ys
      started [] h = absurd (omega arith)
      started (x ∷ xs) h = refl

  module _ (some : List ℕ) (last : ℕ) (parts : (ys ≡ some ++ (last ∷ [])) × (length some + 1 ≡ length ys)) where
    module _ (c : ℕ) {out : List ℕ} {at : ℕ} (turn : c < length some) (f : Growing ch wrap samples ys u before c out at) where
      inside : c + 1 < length ys
      inside = omega (arith, parts.1, turn)

      here : c < length ys
      here = omega (arith, inside)

      abbrev after : List (List ℕ)
      after = grow_from average wrap u (pixel 0) (pixel c) (drop (c + 1) pixels) (drop (c + 1) ys)

      grow-turn : grow_from average wrap u (pixel 0) (pixel (c - 1)) (drop c pixels) (drop c ys) ≡ pixel c ∷ cons_if (doubled u (get_or ys c 0)) (average (pixel c) (pixel (c + 1))) after
      grow-turn =
          let second : drop (c + 1) pixels ≡ pixel (c + 1) ∷ drop (suc (suc c)) pixels = rw (add-one c) (front (suc c) (omega (arith, inside))) in
          let first : drop c pixels ≡ pixel c ∷ pixel (c + 1) ∷ drop (suc (suc c)) pixels = front c here ∙ ap (pixel c ∷◌) (rw (add-one c) (front (suc c) (omega (arith, inside)))) in
          let numbers : drop c ys ≡ get_or ys c 0 ∷ drop (c + 1) ys = rw (add-one c) (drop-cons ys c 0 here) in
          grow_step wrap u (pixel 0) (pixel (c - 1)) (pixel c) (pixel (c + 1)) (drop (suc (suc c)) pixels) (get_or ys c 0) (drop (c + 1) ys) first second numbers

      grow-next : Filling before (grown ch wrap samples ys u) out at (pixel c ++ flat (cons_if (doubled u (get_or ys c 0)) (average (pixel c) (pixel (c + 1))) after))
      grow-next = fill_as (ap flat grow-turn) f

      pub grow-needed : PixelNeeded ch samples c out at
      grow-needed = record { inside = pixel-end ch samples ys needed.whole c here; room = fill-room (pixel c) _ (length-pixel ch samples ys needed.whole c here) grow-next }

      -- after pixel c, with the test of number c
      module _ {out' : List ℕ} {new : Bool} (put : out' ≡ sets out at (pixel c)) (test : new ≡ doubled u (get_or some c 0)) where
        told : doubled u (get_or ys c 0) ≡ new
        told = ap (doubled u) (front_at ys some last parts.0 c turn) ∙ sym test

        behind : Filling before (grown ch wrap samples ys u) out' (at + ch) (flat (cons_if new (average (pixel c) (pixel (c + 1))) after))
        behind = rw put (fill_more (pixel c) _ (length-pixel ch samples ys needed.whole c here) (rw told at grow-next))

        next : c + 1 - 1 ≡ c
        next = omega arith

        pub new-pass : new ≡ false → Growing ch wrap samples ys u before (c + 1) out' (at + ch)
        new-pass s = rw next (rw s at behind)

        new-next : new ≡ true → Filling before (grown ch wrap samples ys u) out' (at + ch) (average (pixel c) (pixel (c + 1)) ++ flat after)
        new-next s = rw s at behind

        length-new : length (average (pixel c) (pixel (c + 1))) ≡ ch
        length-new = length-average ch (pixel c) (pixel (c + 1)) (length-pixel ch samples ys needed.whole c here) (length-pixel ch samples ys needed.whole (c + 1) inside)

        pub new-needed : new ≡ true → MeanNeeded ch samples c (c + 1) out' (at + ch)
        new-needed s = record {
          inside = pixel-end ch samples ys needed.whole c here;
          beside = pixel-end ch samples ys needed.whole (c + 1) inside;
          room = fill-room (average (pixel c) (pixel (c + 1))) _ length-new (new-next s);
        }

        pub new-put : new ≡ true → Growing ch wrap samples ys u before (c + 1) (sets out' (at + ch) (average (pixel c) (pixel (c + 1)))) (at + ch + ch)
        new-put s = rw next (fill_more (average (pixel c) (pixel (c + 1))) _ length-new (new-next s))

    -- The last pixel, with its new pixel.
    module _ {c : ℕ} {out : List ℕ} {at : ℕ} (end : c ≡ length some) (f : Growing ch wrap samples ys u before c out at) {new : Bool} (test : new ≡ doubled u last) where
      abbrev m : ℕ
      m = length some

      last_turn : grow_from average wrap u (pixel 0) (pixel (m - 1)) (drop m pixels) (drop m ys) ≡ grow_last average wrap new (pixel 0) (pixel (m - 1)) (pixel m)
      last_turn =
          let i : m < length ys = omega (arith, parts.1) in
          let none : drop (suc m) pixels ≡ [] = drop_of_length-le pixels {i = suc m} (rw (length-rows_of ch (length ys) samples) (omega (arith, parts.1))) in
          let told : doubled u (get_or ys m 0) ≡ new = ap (doubled u) (last_at ys some last parts.0) ∙ sym test in
          rw (drop-cons pixels m [] (below ch samples ys needed.whole m i), none, drop-cons ys m 0 i, pixel_at ch samples ys needed.whole m i, told)

      last-next : Filling before (grown ch wrap samples ys u) out at (last_pixels ch wrap samples m new ++ [])
      last-next = fill_as (ap flat last_turn ∙ sym (append-nil (last_pixels ch wrap samples m new))) (rw end at f)

      pub last-needed : LastNeeded ch wrap samples m new out at
      last-needed = record { inside = pixel-end ch samples ys needed.whole m (omega (arith, parts.1)); room = fill-room (last_pixels ch wrap samples m new) [] refl last-next }

      pub last-put : sets out at (last_pixels ch wrap samples m new) ≡ grown ch wrap samples ys u ++ drop (length (grown ch wrap samples ys u)) before
      last-put = fill_end (fill_more (last_pixels ch wrap samples m new) [] refl last-next)
