-- `map_show::row_at` meets its contract: each return is the first rule that applies.
use mathlib.Core.Path.{◌≡◌, refl, sym, ◌∙◌}
use mathlib.Core.Bool.{Bool, true, false}
use mathlib.Core.List.{List}
use Prim.Native.Nat.{ℕ, ◌*◌, ◌≤◌}
use borrow.Author.Tests.{eqb-true, leb-true, leb-false}
use lib.Dec.{eqb, leb}
use lib.ListN.{length}
use Rattle.pictures.specs.declared.sizes.Kind.{Kind}
use Rattle.pictures.specs.Refusals.{refusal}
use Rattle.pictures.specs.Pictures.{pixel_bytes}
use Rattle.map_show.specs.Showing.{pixels_at, row_at_rules}
use Rattle.map_show.specs.Inner.Rows.{shown, RowNeeded}
use Rattle.map_show.proofs.Lengths.{row_shown_is}
use Rattle.map_show.proofs.Judging.{refused-space, show-ready, nothing-refused, shown-room}
use Rattle.map_show.proofs.row_at.Goals as goal

-- Past the first test the samples are as many as the numbers say, and the second test says whether there is room.
module _ (k : Kind) (wrap : Bool) (samples ys : List ℕ) (v : ℕ) (out : List ℕ) {whole fits : Bool} {pixels : ℕ} (whole_is : whole ≡ eqb (length samples) (length ys * pixel_bytes k)) (yes : whole ≡ true)
    (pixels_are : pixels ≡ pixels_at ys v) (fits_is : fits ≡ leb (pixels * pixel_bytes k) (length out)) where
  many : length samples ≡ length ys * pixel_bytes k
  many = eqb-true _ _ (sym whole_is ∙ yes)

  short : fits ≡ false → 8 ≡ refusal (row_at_rules k wrap samples ys v (length out))
  short e = refused-space k wrap samples ys v many out (rw pixels_are at (leb-false _ _ (sym fits_is ∙ e)))

  room : fits ≡ true → pixels_at ys v * pixel_bytes k ≤ length out
  room e = rw pixels_are at (leb-true _ _ (sym fits_is ∙ e))

  ready : fits ≡ true → RowNeeded (pixel_bytes k) samples ys (shown (pixel_bytes k) wrap samples ys v) out
  ready e = show-ready k wrap samples ys v many out (room e)

  none : fits ≡ true → 0 ≡ refusal (row_at_rules k wrap samples ys v (length out))
  none e = nothing-refused k wrap samples ys v many out (shown-room k wrap samples ys v many out (room e))

pub returns-then-not-holds_pixels : goal.returns-then-not-holds_pixels
returns-then-not-holds_pixels c =
    record {
      number = short _ _ _ _ _ _ c.has_pixels.ensures c.if-not-has_pixels.false c.pixels_at.ensures c.holds_pixels.ensures c.if-not-holds_pixels.true;
      out_given = refl;
    }

pub show-requires : goal.show-requires
show-requires c = ready _ _ _ _ _ _ c.has_pixels.ensures c.if-not-has_pixels.false c.pixels_at.ensures c.holds_pixels.ensures c.if-not-holds_pixels.false

pub returns : goal.returns
returns c =
    let a = c.args in
    record {
      number = none _ _ _ _ _ _ c.has_pixels.ensures c.if-not-has_pixels.false c.pixels_at.ensures c.holds_pixels.ensures c.if-not-holds_pixels.false;
      out_given = rw (row_shown_is a.kind a.wrap a.samples.now a.numbers.now a.wanted) c.show.ensures;
    }
