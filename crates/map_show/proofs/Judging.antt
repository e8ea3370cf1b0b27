-- When a row is refused, in the terms of the code; and what a caller knows where nothing is refused.
use mathlib.Core.Path.{◌≡◌, sym, ap, ◌∙◌}
use mathlib.Core.Bool.{Bool, not}
use mathlib.Core.List.{List, [], ◌∷◌, ◌++◌}
use Prim.Native.Nat.{ℕ, ◌-◌, ◌*◌, ◌≤◌, ◌<◌}
use borrow.Author.Tests.{eq-eqb, eqb-true, lt-ltb, le-ltb, ltb-false, not-false}
use lib.Dec.{eqb, ltb}
use lib.ListN.{length, drop}
use Rattle.pictures.specs.declared.sizes.Kind.{Kind}
use Rattle.pictures.specs.declared.refusals.Refusal.{Refusal}
use Rattle.std.specs.Prelude.{Result}
use Rattle.pictures.specs.Refusals.{◌when◌, refusal, served}
use Rattle.pictures.specs.Pictures.{pixel_bytes}
use Rattle.pictures.proofs.Rules.{passed}
use Rattle.map_show.specs.Showing.{row_shown, pixels_at, row_at_rules, RowAtGiven}
use Rattle.map_show.specs.Inner.Rows.{shown, kept_pixels, grown, RowNeeded}
use Rattle.map_show.proofs.Lengths.{length-shown, narrow_is, wide_is, row_shown_is}

-- A row of a kind: how many bytes are shown where the samples are as many as the numbers say.
module _ (k : Kind) (wrap : Bool) (samples ys : List ℕ) (v : ℕ) (whole : length samples ≡ length ys * pixel_bytes k) where
  length_row : length (row_shown k wrap samples ys v) ≡ pixels_at ys v * pixel_bytes k
  length_row = ap length (row_shown_is k wrap samples ys v) ∙ length-shown (pixel_bytes k) wrap samples ys v whole

  module _ (out : List ℕ) where
    pub refused-space : length out < pixels_at ys v * pixel_bytes k → 8 ≡ refusal (row_at_rules k wrap samples ys v (length out))
    refused-space h =
        rw (eq-eqb (length samples) (length ys * pixel_bytes k) whole, lt-ltb (length out) (length (row_shown k wrap samples ys v)) (rw length_row h))

    pub show-ready : pixels_at ys v * pixel_bytes k ≤ length out → RowNeeded (pixel_bytes k) samples ys (shown (pixel_bytes k) wrap samples ys v) out
    show-ready h = record { whole = whole; room = rw (length-shown (pixel_bytes k) wrap samples ys v whole) h }

    pub nothing-refused : length (row_shown k wrap samples ys v) ≤ length out → 0 ≡ refusal (row_at_rules k wrap samples ys v (length out))
    nothing-refused room = rw (eq-eqb (length samples) (length ys * pixel_bytes k) whole, le-ltb (length out) (length (row_shown k wrap samples ys v)) room)

    pub shown-room : pixels_at ys v * pixel_bytes k ≤ length out → length (row_shown k wrap samples ys v) ≤ length out
    shown-room h = rw length_row h

-- As many samples as the numbers say, and room: the row stands at the front of the space.
module _ (k : Kind) (wrap : Bool) (samples ys : List ℕ) (v : ℕ) (out : List ℕ) (whole : length samples ≡ length ys * pixel_bytes k)
    (room : length (row_shown k wrap samples ys v) ≤ length out) where
  pub row-served : {answer : Result (Unit {0}) Refusal} {out' : List ℕ} → RowAtGiven k wrap samples ys v out answer out'
      → out' ≡ row_shown k wrap samples ys v ++ drop (length (row_shown k wrap samples ys v)) out
  row-served g =
      g.out_given
      ∙ ap (λ n. served n (row_shown k wrap samples ys v ++ drop (length (row_shown k wrap samples ys v)) out) out) (g.number ∙ sym (nothing-refused k wrap samples ys v whole out room))

-- The same of a row by its channels, at a width that is narrower or wider.
module _ (ch : ℕ) (wrap : Bool) (samples ys : List ℕ) (v : ℕ) (out : List ℕ) (needed : RowNeeded ch samples ys (shown ch wrap samples ys v) out) where
  pub keep-ready : v ≤ length ys → RowNeeded ch samples ys (kept_pixels ch samples ys (length ys - v)) out
  keep-ready h = record { whole = needed.whole; room = rw (narrow_is ch wrap samples ys v h) at needed.room }

  pub grow-ready : length ys < v → RowNeeded ch samples ys (grown ch wrap samples ys (v - length ys)) out
  grow-ready h = record { whole = needed.whole; room = rw (wide_is ch wrap samples ys v h) at needed.room }

-- A row that nothing refuses: how many bytes are shown, and that there is room for them.
module _ (k : Kind) (wrap : Bool) (samples ys : List ℕ) (v space : ℕ) (e : refusal (row_at_rules k wrap samples ys v space) ≡ 0) where
  pub length-served : length (row_shown k wrap samples ys v) ≡ pixels_at ys v * pixel_bytes k
  length-served =
      length_row k wrap samples ys v (eqb-true _ _ (not-false _ (passed (not (eqb (length samples) (length ys * pixel_bytes k))) 3 (refusal (8 when ltb space (length (row_shown k wrap samples ys v)) ∷ [])) e).0))

  pub room-served : pixels_at ys v * pixel_bytes k ≤ space
  room-served =
      let long = length (row_shown k wrap samples ys v) in
      let rest = (passed (not (eqb (length samples) (length ys * pixel_bytes k))) 3 (refusal (8 when ltb space long ∷ [])) e).1 in
      rw length-served at (ltb-false space long (passed (ltb space long) 7 0 rest).0)
